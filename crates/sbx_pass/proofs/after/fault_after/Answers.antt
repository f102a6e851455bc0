use Rattle.std.proofs.Common.{◌≡◌, Bool, true, false, refl, sym, ap, ◌∙◌, arith, inl, inr}
use Rattle.std.specs.Prelude.{◌&&◌, ◌||◌, ◌==◌, ◌⊎◌, IsTrue}
use Rattle.std.specs.List.{list_any}
use Rattle.sbx_rules.specs.Known.{known}
use Rattle.sbx_rules.specs.declared.cause.Cause.{Cause}
use Rattle.sbx_rules.specs.declared.cause.Cause.TheVariants.{UnkeptCells, OutOfFuel}
use Rattle.sbx_image.specs.Order.{block_at, function_at}
use Rattle.sbx_rules.specs.Rules.{Holds, leaves_to, lists_badly, misses_cells, misses_params}
use Rattle.sbx_rules.specs.Ways.{visits_at}
use Rattle.sbx_known.specs.Courses.{arrived, misses_at}
use Rattle.sbx_pass.proofs.Arriving.{any_mapped}
use Rattle.sbx_pass.proofs.Telling.{both, one}
use Rattle.sbx_pass.proofs.after.fault_after.Goals as goal

or_cases : (s t : Bool) → (s || t) ≡ true → (s ≡ true) ⊎ (t ≡ true)
or_cases true t h = inl refl
or_cases false t h = inr h

or_first : (s t : Bool) → s ≡ true → (s || t) ≡ true
or_first true t h = refl
or_first false t h = absurd (cc)

or_second : (s t : Bool) → t ≡ true → (s || t) ≡ true
or_second true t h = refl
or_second false t h = h

-- the rule of cells, where what a call is made with is kept
pub cells_told : (edges params lists : Bool) → params ≡ false →
    ((edges || lists) ≡ true → IsTrue edges ⊎ (IsTrue params ⊎ IsTrue lists)) × (IsTrue edges ⊎ (IsTrue params ⊎ IsTrue lists) → (edges || lists) ≡ true)
cells_told edges params lists none = (
  λ h. elim (or_cases edges lists h) [ inl x ↦ inl x | inr x ↦ inr (inr x) ],
  λ h. elim h [ inl x ↦ or_first edges lists x | inr rest ↦ elim rest [ inl x ↦ absurd (cc) | inr x ↦ or_second edges lists x ] ],
)

pub returns : goal.returns
returns c =
    let parts = c.args.image.now in
    let f = c.args.spot.now.function in
    let b = c.args.spot.now.block in
    let i = c.args.spot.now.number in
    let d = known c.args.here.now in
    let e = known c.args.other.now in
    let P : Cause → Type 0 = Holds parts f b i in
    let edges = list_any (leaves_to parts f b i (misses_cells parts f b i)) (visits_at parts f b i) in
    let lists = (i == 0) && lists_badly (function_at parts f) b (block_at parts f b) in
    let same : c.breaks_cells.result ≡ (edges || lists) =
    c.breaks_cells.ensures ∙ ap (λ x. x || lists) (ap (list_any (misses_at parts f)) (sym c.requires.arrivals) ∙ sym (any_mapped (misses_at parts f) (arrived parts f b i) (visits_at parts f b i))) in
    let told = cells_told edges (list_any (misses_params parts f b i) (visits_at parts f b i)) lists c.requires.params in
    let cells = one P UnkeptCells c.breaks_cells.result c.then_some.result c.then_some.ensures (λ h. told.0 (sym same ∙ h)) (λ h. same ∙ told.1 h) in
    let fuel = one P OutOfFuel c.lacks_fuel.result c.then_some-2.result c.then_some-2.ensures c.lacks_fuel.ensures.0 c.lacks_fuel.ensures.1 in
    let two = both P 13 14 15 c.then_some.result c.then_some-2.result c.or.result (omega arith) (omega arith) c.or.ensures cells fuel in
    both P 13 15 21 c.or.result c.fault_of_ways.result c.or-2.result (omega arith) (omega arith) c.or-2.ensures two c.fault_of_ways.ensures

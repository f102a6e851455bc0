-- Double words: two words that come in, and two that go out.
use Rattle.std.proofs.Common.{◌≡◌, ◌≢◌, ℕ, zero, suc, ◌+◌, ◌-◌, ◌*◌, ◌/◌, ◌%◌, ◌^◌, ◌<◌, ◌≤◌, Bool, true, false}
use Rattle.std.proofs.Common.{List, [], ◌∷◌, ◌++◌, slice_index, slice_set, refl, sym, ap, ◌∙◌, subst, arith}
use Rattle.std.specs.Prelude.{◌==◌, not, if◌then◌else◌}
use Rattle.std.proofs.lemmas.Bool.Decides.{nat_tests}
use Rattle.std.proofs.lemmas.List.{get_or-set_other}
use Rattle.v8_meaning.specs.declared.operation.Loading.TheVariants as loadings
use Rattle.v8_meaning.specs.declared.operation.Transfer.TheVariants as transfer
use Rattle.v8_meaning.specs.Transfers.{odd_of}
use Rattle.sbx_image.specs.Parts.{Parts}
use Rattle.sbx_flat.specs.Effects.{slot_of, transfers_in}
use Rattle.sbx_flat.specs.States.{State, Goes, advanced, with_reg}
use Rattle.sbx_flat.specs.WellFormed.{IsWellFormed}
use Rattle.native_lang.specs.declared.expr.Expr.{Expr}
use Rattle.native_lang.specs.declared.expr.Expr.TheVariants.{Variable}
use Rattle.native_lang.specs.declared.operator.Operator.TheVariants as operators
use Rattle.native_lang.specs.declared.stmt.NumberWidth.TheVariants as widths
use Rattle.native_lang.specs.declared.stmt.Stmt.{Stmt}
use Rattle.native_lang.specs.declared.stmt.Stmt.TheVariants.{Set, Load}
use Rattle.native_lang.specs.Memory.{number_in}
use Rattle.native_lang.specs.Values.{applied, value}
use Rattle.native_lang.specs.World.{World, sets}
use Rattle.native_results.specs.DoesAll.{does_all, then_on}
use Rattle.native_results.specs.ShowsState.{ShowsState}
use Rattle.native_words.specs.Accesses.{AddsAccess, GoesTo, variable_for}
use Rattle.native_words.proofs.Doubles.{number_halves}
use Rattle.native_words.proofs.Loading.{does_load, in_order, load_found, load_kept, set_kept, set_there, taken, variable_shows}
use Rattle.native_words.proofs.Numbers.{small_word}
use Rattle.native_words.proofs.Shown.{moved_shows, scratch_shows}

-- ---- two variables set in either order

swapped : (v : List ℕ) (i j a b : ℕ) → i ≢ j → slice_set (slice_set v i a) j b ≡ slice_set (slice_set v j b) i a
swapped [] i j a b apart = refl
swapped (x ∷ v) zero zero a b apart = absurd (apart refl)
swapped (x ∷ v) zero (suc j) a b apart = refl
swapped (x ∷ v) (suc i) zero a b apart = refl
swapped (x ∷ v) (suc i) (suc j) a b apart = ap (λ l. x ∷ l) (swapped v i j a b (λ e. apart (ap suc e)))

either_order : (w : World) (i j a b : ℕ) → i ≢ j → sets j b (sets i a w) ≡ sets i a (sets j b w)
either_order w i j a b apart = ap (λ l. record w { variables = l }) (swapped w.variables i j a b apart)

even_of : (rd : ℕ) → not (rd % 2 == 0) ≡ false → rd % 2 ≡ 0
even_of rd e = grind (arith, nat_tests)

for_even : (rd : ℕ) → rd < 32 → rd % 2 ≡ 0 → (variable_for rd ≢ odd_of rd) × (variable_for rd ≢ 40)
for_even rd low even = by (rd == 0) refl
  where
    by : (b : Bool) → (rd == 0) ≡ b → ((if b then 45 else rd) ≢ odd_of rd) × ((if b then 45 else rd) ≢ 40)
    by true e = (λ f. omega (arith, f, low), λ f. omega (arith, f))
    by false e = (λ f. omega (arith, f, even), λ f. omega (arith, f, low))

odd_variable : (rd : ℕ) → odd_of rd ≡ variable_for (odd_of rd)
odd_variable rd = let test : (odd_of rd == 0) ≡ false = grind (arith, nat_tests) in sym (ap (λ (b : Bool). if b then 45 else odd_of rd) test)

-- ---- two words that come in

module _ (rd : ℕ) (address behind : Expr) (low : rd < 32) (next_word : (v : List ℕ) → value v behind ≡ applied operators.Sum (slice_index v 40) 4) where
  abbrev statements : List Stmt
  statements = Set 40 address ∷ Load (variable_for rd) widths.Word (Variable 40) ∷ Load (variable_for (odd_of rd)) widths.Word behind ∷ []

  module _ (windows : ℕ) (parts : Parts) (s next : State) (w : World) (a : ℕ) (well : IsWellFormed parts.stack_pages s) (shows : ShowsState parts w s) (even : rd % 2 ≡ 0)
      (at : value w.variables address ≡ a) where
    abbrev high : ℕ
    high = number_in w.block (a - 0x80000) 4

    abbrev lower : ℕ
    lower = number_in w.block (a + 4 - 0x80000) 4

    abbrev first : World
    first = sets 40 (value w.variables address) w

    abbrev second : World
    second = sets (variable_for rd) high first

    abbrev third : World
    third = sets (variable_for (odd_of rd)) lower second

    first_shows : ShowsState parts first s
    first_shows = scratch_shows parts w s 40 (value w.variables address) (omega arith) shows

    there : slice_index first.variables 40 ≡ a
    there = set_there parts w s 40 (value w.variables address) (omega arith) shows ∙ at

    still_there : slice_index second.variables 40 ≡ a
    still_there = get_or-set_other first.variables (variable_for rd) 40 high 0 (λ e. (for_even rd low even).1 (sym e)) ∙ there

    behind_at : a + 8 ≤ 0x100000 → value second.variables behind ≡ a + 4
    behind_at room = next_word second.variables ∙ ap (λ n. applied operators.Sum n 4) still_there ∙ omega (arith, room)

    third_shows : ShowsState parts third (with_reg rd high (with_reg (odd_of rd) lower s))
    third_shows =
        let odd_low : odd_of rd < 32 = omega (arith, low) in
        let apart : variable_for rd ≢ variable_for (odd_of rd) = λ e. (for_even rd low even).0 (e ∙ sym (odd_variable rd)) in
        let one = variable_shows parts first s (odd_of rd) lower odd_low first_shows in
        let both = variable_shows parts (sets (variable_for (odd_of rd)) lower first) (with_reg (odd_of rd) lower s) rd high low one in
        subst (λ x. ShowsState parts x (with_reg rd high (with_reg (odd_of rd) lower s))) (sym (either_order first (variable_for rd) (variable_for (odd_of rd)) high lower apart)) both

    pair_comes : transfers_in parts (transfer.Load loadings.Double) rd a (slot_of (transfer.Load loadings.Double) s a) s ≡ Goes next → GoesTo windows parts statements w next
    pair_comes g =
        let f = load_found parts w s next shows well rd a loadings.Double g in
        let from = f.from in
        let to = f.to in
        let place : a - 0x80000 + 4 ≡ a + 4 - 0x80000 = omega (arith, from) in
        let is : high * 2 ^ 32 + lower ≡ f.number = ap (λ p. high * 2 ^ 32 + number_in w.block p 4) (sym place) ∙ sym (number_halves w.block (a - 0x80000)) ∙ f.is in
        let small : lower < 2 ^ 32 = small_word w.block (a + 4 - 0x80000) shows.block_bytes in
        let top : f.number / 2 ^ 32 ≡ high = omega (arith, is, small) in
        let rest : f.number % 2 ^ 32 ≡ lower = omega (arith, is, small) in
        let follows : advanced (with_reg rd high (with_reg (odd_of rd) lower s)) ≡ next =
        ap (λ n. advanced (with_reg rd n (with_reg (odd_of rd) lower s))) (sym top) ∙ ap (λ n. advanced (with_reg rd (f.number / 2 ^ 32) (with_reg (odd_of rd) n s))) (sym rest)
        ∙ taken ((rd, f.number / 2 ^ 32) ∷ (odd_of rd, f.number % 2 ^ 32) ∷ []) s next f.goes in
        record {
          new = third;
          done =
              ap (λ o. then_on o (does_all windows (Load (variable_for (odd_of rd)) widths.Word behind ∷ [])))
              (does_load windows first (variable_for rd) widths.Word (Variable 40) a 4 high there refl from (omega (arith, to)) refl)
              ∙ ap (λ o. then_on o (does_all windows []))
              (does_load windows second (variable_for (odd_of rd)) widths.Word behind (a + 4) 4 lower (behind_at to) refl (omega (arith, from)) (omega (arith, to)) refl);
          shows = subst (λ t. ShowsState parts third t) follows (moved_shows parts third (with_reg rd high (with_reg (odd_of rd) lower s)) third_shows);
          counts = refl;
          kept = λ x above below. load_kept second (odd_of rd) lower x (omega (arith, low)) above below ∙ load_kept first rd high x low above below
              ∙ set_kept w 40 (value w.variables address) x (λ e. omega (arith, e, above));
        }

  pub pair_load : (old new : List Stmt) → new ≡ old ++ statements → AddsAccess (transfer.Load loadings.Double) rd address old new
  pair_load old new stands = record {
    made = statements;
    behind = stands;
    is = record { comes = λ windows parts s next w a well shows pair at g. pair_comes windows parts s next w a well shows (even_of rd pair) at g };
  }

pub pair_made : (rd odd : ℕ) (address behind : Expr) → rd < 32 → odd ≡ odd_of rd → ((v : List ℕ) → value v behind ≡ applied operators.Sum (slice_index v 40) 4) →
    (old one two new : List Stmt) → one ≡ old ++ Set 40 address ∷ [] → two ≡ one ++ Load (variable_for rd) widths.Word (Variable 40) ∷ [] →
    new ≡ two ++ Load (variable_for odd) widths.Word behind ∷ [] → AddsAccess (transfer.Load loadings.Double) rd address old new
pair_made rd odd address behind low pair next_word old one two new a b c =
    pair_load rd address behind low next_word old new (in_order old one two new _ _ (Load (variable_for (odd_of rd)) widths.Word behind ∷ []) a b
    (subst (λ n. new ≡ two ++ Load (variable_for n) widths.Word behind ∷ []) pair c))

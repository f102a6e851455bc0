-- What is read is spelled so, and keeps the rules: a law for each part of an image.
use Rattle.std.proofs.Common.{◌≡◌, ℕ, zero, suc, ◌+◌, ◌-◌, ◌*◌, ◌^◌, ◌≤◌, true, cond, ltb, leb, eqb, List, [], ◌∷◌, ◌++◌, length, Result, Ok, refl, sym, ap, subst, ◌∙◌, arith}
use Rattle.std.specs.Prelude.{Bool, false, ◌==◌, if◌then◌else◌}
use Rattle.std.specs.Int.{w8, w16, w32, w64, to_be_bytes}
use Rattle.std.specs.List.{flat_map}
use Rattle.std.proofs.lemmas.Bool.{eqb-true, le-leb}
use Rattle.std.proofs.lemmas.List.{append-nil, nil_from_length}
use Rattle.std.proofs.lemmas.List.Concat.{flat_map-cons}
use Rattle.sbx_parts.specs.declared.fault.ImageFault.{ImageFault}
use Rattle.sbx_parts.specs.declared.fault.ImageFault.TheVariants as fault
use Rattle.sbx_parts.specs.declared.order.Next.{Next}
use Rattle.sbx_parts.specs.declared.order.Next.TheVariants.{Exactly, Above}
use Rattle.sbx_image.specs.declared.heads.Header.{Header}
use Rattle.sbx_image.specs.declared.heads.Shape.{Shape}
use Rattle.sbx_image.specs.declared.heads.Counts.{Counts}
use Rattle.sbx_image.specs.declared.heads.Bounds.{Bounds}
use Rattle.sbx_image.specs.declared.heads.FunctionHead.{FunctionHead}
use Rattle.sbx_image.specs.declared.heads.BlockHead.{BlockHead}
use Rattle.sbx_parts.specs.declared.parts.Kind.{Kind}
use Rattle.sbx_parts.specs.declared.parts.Kind.TheVariants.{Leaf, Framed}
use Rattle.sbx_parts.specs.declared.parts.Range.{Range}
use Rattle.sbx_parts.specs.declared.parts.Cell.{Cell}
use Rattle.sbx_parts.specs.declared.parts.Term.{Term}
use Rattle.sbx_parts.specs.declared.parts.Block.{Block}
use Rattle.sbx_parts.specs.declared.parts.Function.{Function}
use Rattle.sbx_parts.specs.declared.parts.Parts.{Parts}
use Rattle.sbx_parts.specs.declared.services.Services.{Services}
use Rattle.sbx_parts.specs.Rules.{◌>>=◌, between, each, FunctionsSoFar, code_start, admits, is_fuel, is_coefficient, is_known, is_version, is_depth, is_data}
use Rattle.sbx_parts.specs.Rules.{is_data_length, in_order, region_keeps, range_keeps, location_keeps, cell_keeps, term_keeps, block_keeps, function_keeps}
use Rattle.sbx_parts.specs.Rules.{parts_keep}
use Rattle.sbx_image.specs.Reading.{number_at, number_in, items_at, range_at, location_at, cell_at, term_at, block_head_at, block_at, kind_at, counts_at}
use Rattle.sbx_image.specs.Reading.{bounds_at, function_head_at, function_at, services_at, data_length_at, data_count_at, header_at, shape_at, shapes_at}
use Rattle.sbx_image.specs.Reading.{shape_of, parts_at, reading}
use Rattle.sbx_image.specs.Spelling.{IsBytes, signed, kind_code, range_text, region_text, cell_text, term_text, block_text, function_head_text, function_text}
use Rattle.sbx_image.specs.Spelling.{shape_text, data_count_text, shapes_text, header_text, spelling}
use Rattle.sbx_parts.specs.declared.parts.Region.{Region}
use Rattle.sbx_parts.specs.Regions.{byte_count}
use Rattle.sbx_image.proofs.RegionLaws.{regions_take, shape_code, shape_keeps, shape_takes}
use Rattle.sbx_image.proofs.VersionLaws.{LengthsRead, regions_read}
use Rattle.sbx_image.proofs.Fields.{bind_ok, wanted, is_between, ok_is, Takes, Takes-then, wide8, wide16, wide32, wide64, signed32, signed64, number_takes, number_in_takes, signed_takes}

range_keeps_by : (r : Range) → in_order r.lo r.hi ≡ true → between 0 3 r.alignment ≡ true → range_keeps r ≡ Ok tt
unfolding range_keeps
range_keeps_by r ordered small = rw (ordered, small) refl

pub range_takes : (bytes : List ℕ) (x : Range × List ℕ) → IsBytes bytes → range_at bytes ≡ Ok x → Takes bytes (range_text x.0) x.1 × (range_keeps x.0 ≡ Ok tt)
unfolding range_at range_text
range_takes bytes x fits e =
    let lo = bind_ok _ _ _ e in
    let hi = bind_ok _ _ _ lo.2 in
    let ordered = wanted (in_order lo.0.0 hi.0.0) fault.Range _ _ hi.2 in
    let alignment = bind_ok _ _ _ ordered.1 in
    let t0 = signed_takes w32 (2 ^ 32) wide32 signed32 bytes lo.0 fits lo.1 in
    let t1 = signed_takes w32 (2 ^ 32) wide32 signed32 lo.0.1 hi.0 t0.rest_fits hi.1 in
    let t2 = number_in_takes w8 (2 ^ 8) wide8 0 3 fault.Range hi.0.1 alignment.0 t1.rest_fits alignment.1 in
    let whole = Takes-then _ _ _ _ _ (Takes-then _ _ _ _ _ t0 t1) t2.0 in
    let made : Range × List ℕ = (record { lo = lo.0.0; hi = hi.0.0; alignment = alignment.0.0 }, alignment.0.1) in
    subst (λ (y : Range × List ℕ). Takes bytes (range_text y.0) y.1 × (range_keeps y.0 ≡ Ok tt)) (ok_is made x alignment.2) (whole, range_keeps_by made.0 ordered.0 t2.1)

location_takes : (last : ℕ) (bytes : List ℕ) (x : ℕ × List ℕ) → IsBytes bytes → location_at last bytes ≡ Ok x → Takes bytes (to_be_bytes w16 x.0) x.1 × (location_keeps last x.0 ≡ Ok tt)
unfolding location_at
location_takes last bytes x fits e =
    let location = bind_ok _ _ _ e in
    let past = wanted (ltb last location.0.0) fault.Order _ _ location.2 in
    let t = number_in_takes w16 (2 ^ 16) wide16 1 1039 fault.Limit bytes location.0 fits location.1 in
    subst (λ (y : ℕ × List ℕ). Takes bytes (to_be_bytes w16 y.0) y.1 × (location_keeps last y.0 ≡ Ok tt)) (ok_is location.0 x past.1) (t.0, rw (t.1, past.0) refl)

cell_takes : (last : ℕ) (bytes : List ℕ) (x : Cell × (ℕ × List ℕ)) → IsBytes bytes → cell_at (last, bytes) ≡ Ok x → Takes bytes (cell_text x.0) x.1.1 × (cell_keeps last x.0 ≡ Ok x.1.0)
unfolding cell_at cell_text cell_keeps
cell_takes last bytes x fits e =
    let location = bind_ok _ _ _ e in
    let range = bind_ok _ _ _ location.2 in
    let t0 = location_takes last bytes location.0 fits location.1 in
    let t1 = range_takes location.0.1 range.0 t0.0.rest_fits range.1 in
    let made : Cell × (ℕ × List ℕ) = (record { location = location.0.0; range = range.0.0 }, (location.0.0, range.0.1)) in
    subst (λ (y : Cell × (ℕ × List ℕ)). Takes bytes (cell_text y.0) y.1.1 × (cell_keeps last y.0 ≡ Ok y.1.0)) (ok_is made x range.2)
    (Takes-then _ _ _ _ _ t0.0 t1.0, rw (t0.1, t1.1) refl)

term_takes : (last : ℕ) (bytes : List ℕ) (x : Term × (ℕ × List ℕ)) → IsBytes bytes → term_at (last, bytes) ≡ Ok x → Takes bytes (term_text x.0) x.1.1 × (term_keeps last x.0 ≡ Ok x.1.0)
unfolding term_at term_text term_keeps
term_takes last bytes x fits e =
    let location = bind_ok _ _ _ e in
    let coefficient = bind_ok _ _ _ location.2 in
    let some = wanted (is_coefficient coefficient.0.0) fault.Limit _ _ coefficient.2 in
    let t0 = location_takes last bytes location.0 fits location.1 in
    let t1 = signed_takes w32 (2 ^ 32) wide32 signed32 location.0.1 coefficient.0 t0.0.rest_fits coefficient.1 in
    let made : Term × (ℕ × List ℕ) = (record { location = location.0.0; coefficient = coefficient.0.0 }, (location.0.0, coefficient.0.1)) in
    subst (λ (y : Term × (ℕ × List ℕ)). Takes bytes (term_text y.0) y.1.1 × (term_keeps last y.0 ≡ Ok y.1.0)) (ok_is made x some.1)
    (Takes-then _ _ _ _ _ t0.0 t1, rw (t0.1, some.0) refl)

-- ---- lists of items, with what each leaves for the next

module _ {A C S : Type 0} (item : C → Result (A × C) ImageFault) (bytes_of : C → List ℕ) (state_of : C → S) (keeps : S → A → Result S ImageFault) (text : A → List ℕ) where
  abbrev pub TakesOne : Type 0
  TakesOne = (c : C) (x : A × C) → IsBytes (bytes_of c) → item c ≡ Ok x → Takes (bytes_of c) (text x.0) (bytes_of x.1) × (keeps (state_of c) x.0 ≡ Ok (state_of x.1))

  pub items_take : TakesOne → (n : ℕ) (c : C) (x : List A × C) → IsBytes (bytes_of c) → items_at item n c ≡ Ok x →
      Takes (bytes_of c) (flat_map text x.0) (bytes_of x.1) × (length x.0 ≡ n) × (each keeps (state_of c) x.0 ≡ Ok (state_of x.1))
  unfolding items_at each
  items_take one zero c x fits e =
      subst (λ (y : List A × C). Takes (bytes_of c) (flat_map text y.0) (bytes_of y.1) × (length y.0 ≡ 0) × (each keeps (state_of c) y.0 ≡ Ok (state_of y.1)))
      (ok_is ([], c) x e) (record { parts = refl; rest_fits = fits }, refl, refl)
  items_take one (suc n) c x fits e =
      let a = bind_ok _ _ _ e in
      let b = bind_ok _ _ _ a.2 in
      let first = one c a.0 fits a.1 in
      let second = items_take one n a.0.1 b.0 first.0.rest_fits b.1 in
      let both = Takes-then _ _ _ _ _ first.0 second.0 in
      let made : List A × C = (a.0.0 ∷ b.0.0, b.0.1) in
      subst (λ (y : List A × C). Takes (bytes_of c) (flat_map text y.0) (bytes_of y.1) × (length y.0 ≡ suc n)
      × (each keeps (state_of c) y.0 ≡ Ok (state_of y.1))) (ok_is made x b.2) (rw flat_map-cons both, ap suc second.1, rw first.1 second.2)

-- ---- blocks

block_head_takes : (end : ℕ) (next : Next) (bytes : List ℕ) (x : BlockHead × List ℕ) → IsBytes bytes → block_head_at end next bytes ≡ Ok x
    → Takes bytes (to_be_bytes w32 x.0.address ++ to_be_bytes w16 x.0.cells ++ to_be_bytes w16 x.0.terms ++ signed w64 x.0.fuel) x.1
    × (admits end next x.0.address ≡ true) × (between 0 64 x.0.cells ≡ true) × (between 0 8 x.0.terms ≡ true) × (is_fuel x.0.fuel ≡ true)
unfolding block_head_at
block_head_takes end next bytes x fits e =
    let address = bind_ok _ _ _ e in
    let admitted = wanted (admits end next address.0.0) fault.Order _ _ address.2 in
    let cells = bind_ok _ _ _ admitted.1 in
    let terms = bind_ok _ _ _ cells.2 in
    let fuel = bind_ok _ _ _ terms.2 in
    let small = wanted (is_fuel fuel.0.0) fault.Limit _ _ fuel.2 in
    let t0 = number_takes w32 (2 ^ 32) wide32 bytes address.0 fits address.1 in
    let t1 = number_in_takes w16 (2 ^ 16) wide16 0 64 fault.Limit address.0.1 cells.0 t0.0.rest_fits cells.1 in
    let t2 = number_in_takes w16 (2 ^ 16) wide16 0 8 fault.Limit cells.0.1 terms.0 t1.0.rest_fits terms.1 in
    let t3 = signed_takes w64 (2 ^ 64) wide64 signed64 terms.0.1 fuel.0 t2.0.rest_fits fuel.1 in
    let whole = Takes-then _ _ _ _ _ (Takes-then _ _ _ _ _ (Takes-then _ _ _ _ _ t0.0 t1.0) t2.0) t3 in
    let made : BlockHead × List ℕ = (record { address = address.0.0; cells = cells.0.0; terms = terms.0.0; fuel = fuel.0.0 }, fuel.0.1) in
    subst (λ (y : BlockHead × List ℕ). Takes bytes (to_be_bytes w32 y.0.address ++ to_be_bytes w16 y.0.cells ++ to_be_bytes w16 y.0.terms ++ signed w64 y.0.fuel) y.1
    × (admits end next y.0.address ≡ true) × (between 0 64 y.0.cells ≡ true) × (between 0 8 y.0.terms ≡ true) × (is_fuel y.0.fuel ≡ true)) (ok_is made x small.1)
    (whole, admitted.0, t1.1, t2.1, small.0)

pub block_takes : (end : ℕ) (next : Next) (bytes : List ℕ) (x : Block × (Next × List ℕ)) → IsBytes bytes → block_at end (next, bytes) ≡ Ok x →
    Takes bytes (block_text x.0) x.1.1 × (block_keeps end next x.0 ≡ Ok x.1.0)
unfolding block_at block_text block_keeps
block_takes end next bytes x fits e =
    let head = bind_ok _ _ _ e in
    let cells = bind_ok _ _ _ head.2 in
    let terms = bind_ok _ _ _ cells.2 in
    let h = block_head_takes end next bytes head.0 fits head.1 in
    let c = items_take cell_at (λ y. y.1) (λ y. y.0) cell_keeps cell_text (λ y z f k. cell_takes y.0 y.1 z f k) head.0.0.cells (0, head.0.1) cells.0 h.0.rest_fits cells.1 in
    let t = items_take term_at (λ y. y.1) (λ y. y.0) term_keeps term_text (λ y z f k. term_takes y.0 y.1 z f k) head.0.0.terms (0, cells.0.1.1) terms.0 c.0.rest_fits terms.1 in
    let both = Takes-then _ _ _ _ _ (Takes-then _ _ _ _ _ h.0 c.0) t.0 in
    let whole = subst
    (λ (n : ℕ). Takes bytes
    (to_be_bytes w32 head.0.0.address ++ to_be_bytes w16 n ++ to_be_bytes w16 head.0.0.terms ++ signed w64 head.0.0.fuel ++ flat_map cell_text cells.0.0
    ++ flat_map term_text terms.0.0) terms.0.1.1) (sym c.1) both in
    let named = subst
    (λ (n : ℕ). Takes bytes
    (to_be_bytes w32 head.0.0.address ++ to_be_bytes w16 (length cells.0.0) ++ to_be_bytes w16 n ++ signed w64 head.0.0.fuel ++ flat_map cell_text cells.0.0
    ++ flat_map term_text terms.0.0) terms.0.1.1) (sym t.1) whole in
    let made : Block × (Next × List ℕ) = (record { address = head.0.0.address; fuel = head.0.0.fuel; cells = cells.0.0; terms = terms.0.0 }, (Above head.0.0.address, terms.0.1.1)) in
    let few : between 0 64 (length cells.0.0) ≡ true = rw c.1 h.2 in
    let small : between 0 8 (length terms.0.0) ≡ true = rw t.1 h.3 in
    subst (λ (y : Block × (Next × List ℕ)). Takes bytes (block_text y.0) y.1.1 × (block_keeps end next y.0 ≡ Ok y.1.0)) (ok_is made x terms.2)
    (named, rw (h.1, few, small, h.4, c.2, t.2) refl)

-- ---- functions

-- how many frames calls push at one time, where the version tells it
abbrev pub depth_code : Bool → ℕ → List ℕ
depth_code told n = if told then to_be_bytes w16 n else []

abbrev pub depth_keeps : Bool → ℕ → Bool
depth_keeps told n = if told then leb n 256 else n == 0

-- what a head spells, before the lists that it counts
abbrev pub head_text : ℕ → FunctionHead → List ℕ
head_text version h =
    to_be_bytes w8 (kind_code h.kind) ++ to_be_bytes w8 h.params ++ to_be_bytes w8 h.results ++ to_be_bytes w8 0 ++ to_be_bytes w32 h.entry
    ++ to_be_bytes w32 h.frame ++ to_be_bytes w32 h.stack_room ++ to_be_bytes w64 h.budget ++ depth_code (version == 3) h.depth ++ to_be_bytes w16 h.blocks

pub record HeadKeeps (version end : ℕ) (place : FunctionsSoFar) (h : FunctionHead) : Type 0 where
  pub params : between 0 6 h.params ≡ true
  pub results : between 0 6 h.results ≡ true
  pub entry : admits end place.0 h.entry ≡ true
  pub frame : between 0 4096 h.frame ≡ true
  pub stack_room : between 0 65536 h.stack_room ≡ true
  pub budget : between 0 1099511627775 h.budget ≡ true
  pub depth : is_depth version h.depth ≡ true
  pub blocks : between 1 (4096 - place.1) h.blocks ≡ true

code_again : (n : ℕ) → between 0 1 n ≡ true → kind_code (cond (eqb n 0) Leaf Framed) ≡ n
code_again zero h = refl
code_again (suc zero) h = refl
code_again (suc (suc n)) h = absurd (let le : suc (suc n) ≤ 1 = (is_between 0 1 _ h).1 in omega arith)

only_zero : (n : ℕ) → between 0 0 n ≡ true → n ≡ 0
only_zero zero h = refl
only_zero (suc n) h = absurd (let le : suc n ≤ 0 = (is_between 0 0 _ h).1 in omega arith)

kind_takes : (bytes : List ℕ) (x : Kind × List ℕ) → IsBytes bytes → kind_at bytes ≡ Ok x → Takes bytes (to_be_bytes w8 (kind_code x.0)) x.1
unfolding kind_at
kind_takes bytes x fits e =
    let kind = bind_ok _ _ _ e in
    let t = number_in_takes w8 (2 ^ 8) wide8 0 1 fault.Limit bytes kind.0 fits kind.1 in
    let code : kind_code (cond (eqb kind.0.0 0) Leaf Framed) ≡ kind.0.0 = code_again kind.0.0 t.1 in
    subst (λ (y : Kind × List ℕ). Takes bytes (to_be_bytes w8 (kind_code y.0)) y.1) (ok_is (cond (eqb kind.0.0 0) Leaf Framed, kind.0.1) x kind.2) (rw code t.0)

-- what the counts of a function spell
abbrev counted_text : Counts → List ℕ
counted_text c = to_be_bytes w8 (kind_code c.kind) ++ to_be_bytes w8 c.params ++ to_be_bytes w8 c.results ++ to_be_bytes w8 0

counts_takes : (bytes : List ℕ) (x : Counts × List ℕ) → IsBytes bytes → counts_at bytes ≡ Ok x
    → Takes bytes (counted_text x.0) x.1 × (between 0 6 x.0.params ≡ true) × (between 0 6 x.0.results ≡ true)
unfolding counts_at
counts_takes bytes x fits e =
    let kind = bind_ok _ _ _ e in
    let params = bind_ok _ _ _ kind.2 in
    let results = bind_ok _ _ _ params.2 in
    let unused = bind_ok _ _ _ results.2 in
    let t0 = kind_takes bytes kind.0 fits kind.1 in
    let t1 = number_in_takes w8 (2 ^ 8) wide8 0 6 fault.Limit kind.0.1 params.0 t0.rest_fits params.1 in
    let t2 = number_in_takes w8 (2 ^ 8) wide8 0 6 fault.Limit params.0.1 results.0 t1.0.rest_fits results.1 in
    let t3 = number_in_takes w8 (2 ^ 8) wide8 0 0 fault.Limit results.0.1 unused.0 t2.0.rest_fits unused.1 in
    let blank : unused.0.0 ≡ 0 = only_zero unused.0.0 t3.1 in
    let none : Takes results.0.1 (to_be_bytes w8 0) unused.0.1 = subst (λ (n : ℕ). Takes results.0.1 (to_be_bytes w8 n) unused.0.1) blank t3.0 in
    let whole = Takes-then _ _ _ _ _ (Takes-then _ _ _ _ _ (Takes-then _ _ _ _ _ t0 t1.0) t2.0) none in
    let made : Counts × List ℕ = (record { kind = kind.0.0; params = params.0.0; results = results.0.0 }, unused.0.1) in
    subst (λ (y : Counts × List ℕ). Takes bytes (counted_text y.0) y.1 × (between 0 6 y.0.params ≡ true) × (between 0 6 y.0.results ≡ true)) (ok_is made x unused.2)
    (whole, t1.1, t2.1)

-- what its bounds spell, behind what was taken before them
bounds_take : (bytes before left : List ℕ) (x : Bounds × List ℕ) → Takes bytes before left → bounds_at left ≡ Ok x
    → Takes bytes (before ++ to_be_bytes w32 x.0.frame ++ to_be_bytes w32 x.0.stack_room ++ to_be_bytes w64 x.0.budget) x.1
    × (between 0 4096 x.0.frame ≡ true) × (between 0 65536 x.0.stack_room ≡ true) × (between 0 1099511627775 x.0.budget ≡ true)
unfolding bounds_at
bounds_take bytes before left x t e =
    let frame = bind_ok _ _ _ e in
    let stack_room = bind_ok _ _ _ frame.2 in
    let budget = bind_ok _ _ _ stack_room.2 in
    let t0 = number_in_takes w32 (2 ^ 32) wide32 0 4096 fault.Limit left frame.0 t.rest_fits frame.1 in
    let t1 = number_in_takes w32 (2 ^ 32) wide32 0 65536 fault.Limit frame.0.1 stack_room.0 t0.0.rest_fits stack_room.1 in
    let t2 = number_in_takes w64 (2 ^ 64) wide64 0 1099511627775 fault.Limit stack_room.0.1 budget.0 t1.0.rest_fits budget.1 in
    let whole = Takes-then _ _ _ _ _ (Takes-then _ _ _ _ _ (Takes-then _ _ _ _ _ t t0.0) t1.0) t2.0 in
    let made : Bounds × List ℕ = (record { frame = frame.0.0; stack_room = stack_room.0.0; budget = budget.0.0 }, budget.0.1) in
    subst (λ (y : Bounds × List ℕ). Takes bytes (before ++ to_be_bytes w32 y.0.frame ++ to_be_bytes w32 y.0.stack_room ++ to_be_bytes w64 y.0.budget) y.1
    × (between 0 4096 y.0.frame ≡ true) × (between 0 65536 y.0.stack_room ≡ true) × (between 0 1099511627775 y.0.budget ≡ true)) (ok_is made x budget.2)
    (whole, t0.1, t1.1, t2.1)

depth_takes : (told : Bool) (bytes : List ℕ) (x : ℕ × List ℕ) → IsBytes bytes → (if told then number_in w16 0 256 fault.Limit bytes else Ok (0, bytes)) ≡ Ok x →
    Takes bytes (depth_code told x.0) x.1 × (depth_keeps told x.0 ≡ true)
depth_takes true bytes x fits e =
    let t = number_in_takes w16 (2 ^ 16) wide16 0 256 fault.Limit bytes x fits e in
    (t.0, le-leb _ _ (is_between 0 256 x.0 t.1).1)
depth_takes false bytes x fits e =
    subst (λ (y : ℕ × List ℕ). Takes bytes [] y.1 × ((y.0 == 0) ≡ true)) (ok_is (0, bytes) x e) (record { parts = refl; rest_fits = fits }, refl)

pub function_head_takes : (version end : ℕ) (place : FunctionsSoFar) (bytes : List ℕ) (x : FunctionHead × List ℕ) → IsBytes bytes → function_head_at version end place bytes ≡ Ok x
    → Takes bytes (head_text version x.0) x.1 × HeadKeeps version end place x.0
unfolding function_head_at
function_head_takes version end place bytes x fits e =
    let counts = bind_ok _ _ _ e in
    let entry = bind_ok _ _ _ counts.2 in
    let admitted = wanted (admits end place.0 entry.0.0) fault.Order _ _ entry.2 in
    let bounds = bind_ok _ _ _ admitted.1 in
    let depth = bind_ok _ _ _ bounds.2 in
    let blocks = bind_ok _ _ _ depth.2 in
    let t0 = counts_takes bytes counts.0 fits counts.1 in
    let t1 = number_takes w32 (2 ^ 32) wide32 counts.0.1 entry.0 t0.0.rest_fits entry.1 in
    let t2 = bounds_take bytes _ entry.0.1 bounds.0 (Takes-then _ _ _ _ _ t0.0 t1.0) bounds.1 in
    let t3 = depth_takes (version == 3) bounds.0.1 depth.0 t2.0.rest_fits depth.1 in
    let t4 = number_in_takes w16 (2 ^ 16) wide16 1 (4096 - place.1) fault.Limit depth.0.1 blocks.0 t3.0.rest_fits blocks.1 in
    let whole = Takes-then _ _ _ _ _ (Takes-then _ _ _ _ _ t2.0 t3.0) t4.0 in
    let made : FunctionHead × List ℕ = (
      record {
        kind = counts.0.0.kind;
        params = counts.0.0.params;
        results = counts.0.0.results;
        entry = entry.0.0;
        frame = bounds.0.0.frame;
        stack_room =
            bounds.0.0.stack_room;
        budget = bounds.0.0.budget;
        depth = depth.0.0;
        blocks = blocks.0.0;
      },
      blocks.0.1,
    ) in
    subst (λ (y : FunctionHead × List ℕ). Takes bytes (head_text version y.0) y.1 × HeadKeeps version end place y.0) (ok_is made x blocks.2)
    (whole, record { params = t0.1; results = t0.2; entry = admitted.0; frame = t2.1; stack_room = t2.2; budget = t2.3; depth = t3.1; blocks = t4.1 })

-- the head that a function's lists give
abbrev head_of : Function → FunctionHead
head_of f = record {
  kind = f.kind;
  params = length f.params;
  results = length f.results;
  entry = f.entry;
  frame = f.frame;
  stack_room = f.stack_room;
  budget =
      f.budget;
  depth = f.depth;
  blocks = length f.blocks;
}

head_counted : (h : FunctionHead) (params results blocks : ℕ) → params ≡ h.params → results ≡ h.results → blocks ≡ h.blocks
    → h ≡ record { kind = h.kind; params = params; results = results; entry = h.entry; frame = h.frame; stack_room = h.stack_room; budget = h.budget; depth = h.depth; blocks = blocks }
head_counted h params results blocks p r b = rw (p, r, b) refl

function_keeps_by : (version end : ℕ) (place : FunctionsSoFar) (f : Function) (next : Next) → HeadKeeps version end place (head_of f)
    → each (λ _ r. range_keeps r) tt f.params ≡ Ok tt → each (λ _ r. range_keeps r) tt f.results ≡ Ok tt → each (block_keeps end) (Exactly f.entry) f.blocks ≡ Ok next
    → function_keeps version end place f ≡ Ok (next, place.1 + length f.blocks)
unfolding function_keeps
function_keeps_by version end place f next k params results blocks =
    rw (k.params, k.results, k.entry, k.frame, k.stack_room, k.budget, k.depth, k.blocks, params, results, blocks) refl

function_takes : (version end : ℕ) (place : FunctionsSoFar) (bytes : List ℕ) (x : Function × (FunctionsSoFar × List ℕ)) → IsBytes bytes →
    function_at version end (place, bytes) ≡ Ok x → Takes bytes (function_text version x.0) x.1.1 × (function_keeps version end place x.0 ≡ Ok x.1.0)
unfolding function_at function_head_text function_text
function_takes version end place bytes x fits e =
    let head = bind_ok _ _ _ e in
    let params = bind_ok _ _ _ head.2 in
    let results = bind_ok _ _ _ params.2 in
    let blocks = bind_ok _ _ _ results.2 in
    let h = function_head_takes version end place bytes head.0 fits head.1 in
    let p = items_take range_at (λ y. y) (λ _. tt) (λ _ r. range_keeps r) range_text (λ y z f k. range_takes y z f k) head.0.0.params head.0.1 params.0 h.0.rest_fits params.1 in
    let r = items_take range_at (λ y. y) (λ _. tt) (λ _ r. range_keeps r) range_text (λ y z f k. range_takes y z f k) head.0.0.results params.0.1 results.0 p.0.rest_fits results.1 in
    let b = items_take (block_at end) (λ y. y.1) (λ y. y.0) (block_keeps end) block_text (λ y z f k. block_takes end y.0 y.1 z f k) head.0.0.blocks
    (Exactly head.0.0.entry, results.0.1) blocks.0 r.0.rest_fits blocks.1 in
    let lists = Takes-then _ _ _ _ _ (Takes-then _ _ _ _ _ (Takes-then _ _ _ _ _ h.0 p.0) r.0) b.0 in
    let counted : FunctionHead =
    record {
      kind = head.0.0.kind;
      params = length params.0.0;
      results = length results.0.0;
      entry = head.0.0.entry;
      frame = head.0.0.frame;
      stack_room =
          head.0.0.stack_room;
      budget = head.0.0.budget;
      depth = head.0.0.depth;
      blocks = length blocks.0.0;
    } in
    let same : head.0.0 ≡ counted = head_counted head.0.0 _ _ _ p.1 r.1 b.1 in
    let whole = subst
    (λ (g : FunctionHead). Takes bytes
    (head_text version g ++ flat_map range_text params.0.0 ++ flat_map range_text results.0.0 ++ flat_map block_text blocks.0.0) blocks.0.1.1) same lists in
    let k : HeadKeeps version end place counted = subst (HeadKeeps version end place) same h.1 in
    let made : Function × (FunctionsSoFar × List ℕ) = (
      record {
        kind = head.0.0.kind;
        params = params.0.0;
        results = results.0.0;
        entry = head.0.0.entry;
        frame = head.0.0.frame;
        stack_room =
            head.0.0.stack_room;
        budget = head.0.0.budget;
        depth = head.0.0.depth;
        blocks = blocks.0.0;
      },
      ((blocks.0.1.0, place.1 + head.0.0.blocks), blocks.0.1.1),
    ) in
    subst (λ (y : Function × (FunctionsSoFar × List ℕ)). Takes bytes (function_text version y.0) y.1.1 × (function_keeps version end place y.0 ≡ Ok y.1.0)) (ok_is made x blocks.2)
    (whole, function_keeps_by version end place made.0 blocks.0.1.0 k p.2 r.2 b.2 ∙ ap (λ (n : ℕ). Ok (blocks.0.1.0, place.1 + n)) b.1)

-- ---- the whole

-- how many bytes of data version 1 has, or how many regions versions 2 and 3 have
abbrev pub data_text : Bool → ℕ → List ℕ
data_text one n = if one then to_be_bytes w32 n else to_be_bytes w16 n

abbrev pub data_keeps : Bool → ℕ → Bool
data_keeps one n = if one then is_data_length n else between 0 8 n

-- what is counted in version 1 and in the others
pub data_of : (one : Bool) (rs : List Region) → data_text one (if one then byte_count rs else length rs) ≡ (if one then to_be_bytes w32 (byte_count rs) else to_be_bytes w16 (length rs))
data_of true rs = refl
data_of false rs = refl

abbrev pub counts_text : Header → List ℕ
counts_text h =
    to_be_bytes w32 0x53425838 ++ to_be_bytes w16 h.version ++ to_be_bytes w16 h.services.0 ++ to_be_bytes w32 h.words
    ++ data_text (h.version == 1) h.data_count ++ to_be_bytes w16 h.stack_pages ++ to_be_bytes w16 h.functions

pub record HeaderKeeps (h : Header) : Type 0 where
  pub version : is_version h.version ≡ true
  pub services : is_known h.services.0 ≡ true
  pub words : between 1 65536 h.words ≡ true
  pub data_count : data_keeps (h.version == 1) h.data_count ≡ true
  pub stack_pages : between 1 16 h.stack_pages ≡ true
  pub functions : between 1 256 h.functions ≡ true

only : (k n : ℕ) → between k k n ≡ true → n ≡ k
only k n h = let b = is_between k k n h in omega (arith, b.0, b.1)

services_take : (bytes : List ℕ) (x : (ℕ × Services) × List ℕ) → IsBytes bytes → services_at bytes ≡ Ok x
    → Takes bytes (to_be_bytes w32 0x53425838 ++ to_be_bytes w16 x.0.0 ++ to_be_bytes w16 x.0.1.0) x.1 × (is_version x.0.0 ≡ true) × (is_known x.0.1.0 ≡ true)
unfolding services_at
services_take bytes x fits e =
    let magic = bind_ok _ _ _ e in
    let version = bind_ok _ _ _ magic.2 in
    let first = wanted (is_version version.0.0) fault.Version _ _ version.2 in
    let services = bind_ok _ _ _ first.1 in
    let known = wanted (is_known services.0.0) fault.Service _ _ services.2 in
    let t0 = number_in_takes w32 (2 ^ 32) wide32 0x53425838 0x53425838 fault.Magic bytes magic.0 fits magic.1 in
    let t1 = number_takes w16 (2 ^ 16) wide16 magic.0.1 version.0 t0.0.rest_fits version.1 in
    let t2 = number_takes w16 (2 ^ 16) wide16 version.0.1 services.0 t1.0.rest_fits services.1 in
    let m0 : Takes bytes (to_be_bytes w32 0x53425838) magic.0.1 = subst (λ (n : ℕ). Takes bytes (to_be_bytes w32 n) magic.0.1) (only 0x53425838 magic.0.0 t0.1) t0.0 in
    let whole = Takes-then _ _ _ _ _ (Takes-then _ _ _ _ _ m0 t1.0) t2.0 in
    let made : (ℕ × Services) × List ℕ = ((version.0.0, record { 0 = services.0.0 }), services.0.1) in
    subst (λ (y : (ℕ × Services) × List ℕ). Takes bytes (to_be_bytes w32 0x53425838 ++ to_be_bytes w16 y.0.0 ++ to_be_bytes w16 y.0.1.0) y.1
    × (is_version y.0.0 ≡ true) × (is_known y.0.1.0 ≡ true)) (ok_is made x known.1)
    (whole, first.0, known.0)

data_length_takes : (bytes : List ℕ) (x : ℕ × List ℕ) → IsBytes bytes → data_length_at bytes ≡ Ok x → Takes bytes (to_be_bytes w32 x.0) x.1 × (is_data_length x.0 ≡ true)
unfolding data_length_at
data_length_takes bytes x fits e =
    let data_bytes = bind_ok _ _ _ e in
    let whole_slots = wanted (is_data_length data_bytes.0.0) fault.Limit _ _ data_bytes.2 in
    let t = number_takes w32 (2 ^ 32) wide32 bytes data_bytes.0 fits data_bytes.1 in
    subst (λ (y : ℕ × List ℕ). Takes bytes (to_be_bytes w32 y.0) y.1 × (is_data_length y.0 ≡ true)) (ok_is data_bytes.0 x whole_slots.1) (t.0, whole_slots.0)

data_count_takes : (one : Bool) (bytes : List ℕ) (x : ℕ × List ℕ) → IsBytes bytes →
    (if one then data_length_at bytes else number_in w16 0 8 fault.Limit bytes) ≡ Ok x → Takes bytes (data_text one x.0) x.1 × (data_keeps one x.0 ≡ true)
data_count_takes true bytes x fits e = data_length_takes bytes x fits e
data_count_takes false bytes x fits e = number_in_takes w16 (2 ^ 16) wide16 0 8 fault.Limit bytes x fits e

pub header_takes : (bytes : List ℕ) (x : Header × List ℕ) → IsBytes bytes → header_at bytes ≡ Ok x → Takes bytes (counts_text x.0) x.1 × HeaderKeeps x.0
unfolding header_at data_count_at
header_takes bytes x fits e =
    let services = bind_ok _ _ _ e in
    let words = bind_ok _ _ _ services.2 in
    let data_bytes = bind_ok _ _ _ words.2 in
    let stack_pages = bind_ok _ _ _ data_bytes.2 in
    let functions = bind_ok _ _ _ stack_pages.2 in
    let t0 = services_take bytes services.0 fits services.1 in
    let t1 = number_in_takes w32 (2 ^ 32) wide32 1 65536 fault.Limit services.0.1 words.0 t0.0.rest_fits words.1 in
    let t2 = data_count_takes (services.0.0.0 == 1) words.0.1 data_bytes.0 t1.0.rest_fits data_bytes.1 in
    let t3 = number_in_takes w16 (2 ^ 16) wide16 1 16 fault.Limit data_bytes.0.1 stack_pages.0 t2.0.rest_fits stack_pages.1 in
    let t4 = number_in_takes w16 (2 ^ 16) wide16 1 256 fault.Limit stack_pages.0.1 functions.0 t3.0.rest_fits functions.1 in
    let whole = Takes-then _ _ _ _ _ (Takes-then _ _ _ _ _ (Takes-then _ _ _ _ _ (Takes-then _ _ _ _ _ t0.0 t1.0) t2.0) t3.0) t4.0 in
    let made : Header × List ℕ = (
      record {
        version = services.0.0.0;
        services = services.0.0.1;
        words = words.0.0;
        data_count = data_bytes.0.0;
        stack_pages =
            stack_pages.0.0;
        functions = functions.0.0;
      },
      functions.0.1,
    ) in
    subst (λ (y : Header × List ℕ). Takes bytes (counts_text y.0) y.1 × HeaderKeeps y.0) (ok_is made x functions.2)
    (whole, record { version = t0.1; services = t0.2; words = t1.1; data_count = t2.1; stack_pages = t3.1; functions = t4.1 })

abbrev done_with : ℕ → Result (Unit {0}) ImageFault
done_with _ = Ok tt

pub word_takes : (bytes : List ℕ) (x : ℕ × List ℕ) → IsBytes bytes → number_at w32 bytes ≡ Ok x → Takes bytes (to_be_bytes w32 x.0) x.1 × (done_with x.0 ≡ Ok tt)
word_takes bytes x fits e = ((number_takes w32 (2 ^ 32) wide32 bytes x fits e).0, refl)

abbrev shapes_code : Bool → List Shape → List ℕ
shapes_code one shapes = if one then [] else flat_map shape_code shapes

-- the regions' lengths and kinds, where the header says how many
abbrev pub lengths_at : Bool → ℕ → List ℕ → Result (List Shape × List ℕ) ImageFault
lengths_at one n bytes = if one then Ok (shape_of n, bytes) else (items_at shape_at n (0, bytes) >>= λ shapes. Ok (shapes.0, shapes.1.1))

shapes_take : (one : Bool) (n : ℕ) (bytes : List ℕ) (x : List Shape × List ℕ) → IsBytes bytes → lengths_at one n bytes ≡ Ok x → Takes bytes (shapes_code one x.0) x.1 × LengthsRead one n x.0
shapes_take true n bytes x fits e =
    subst (λ (y : List Shape × List ℕ). Takes bytes [] y.1 × (y.0 ≡ shape_of n)) (ok_is (shape_of n, bytes) x e) (record { parts = refl; rest_fits = fits }, refl)
shapes_take false n bytes x fits e =
    let shapes = bind_ok _ _ _ e in
    let t = items_take shape_at (λ y. y.1) (λ y. y.0) shape_keeps shape_code (λ y z g k. shape_takes y.0 y.1 z g k) n (0, bytes) shapes.0 fits shapes.1 in
    subst (λ (y : List Shape × List ℕ). Takes bytes (flat_map shape_code y.0) y.1 × LengthsRead false n y.0) (ok_is (shapes.0.0, shapes.0.1.1) x shapes.2)
    (t.0, (t.1, shapes.0.1.0, t.2))

header_counted : (h : Header) (words data_count functions : ℕ) → words ≡ h.words → data_count ≡ h.data_count → functions ≡ h.functions
    → h ≡ record { version = h.version; services = h.services; words = words; data_count = data_count; stack_pages = h.stack_pages; functions = functions }
header_counted h words data_count functions w d f = rw (w, d, f) refl

parts_keep_by : (p : Parts) (pages : ℕ) (next : FunctionsSoFar) → is_version p.version ≡ true → is_known p.services.0 ≡ true →
    between 1 65536 (length p.words) ≡ true → is_data p.version p.regions ≡ true
    → between 1 16 p.stack_pages ≡ true → between 1 256 (length p.functions) ≡ true → each region_keeps 0 p.regions ≡ Ok pages
    → each (function_keeps p.version (code_start + 4 * length p.words)) (Exactly code_start, 0) p.functions ≡ Ok next
    → parts_keep p ≡ Ok tt
unfolding parts_keep
parts_keep_by p pages next version services words regions stack_pages functions lengths in_turn =
    rw (version, services, words, regions, stack_pages, functions, lengths, in_turn) refl

parts_take : (bytes : List ℕ) (x : Parts × List ℕ) → IsBytes bytes → parts_at bytes ≡ Ok x → Takes bytes (spelling x.0) x.1 × (parts_keep x.0 ≡ Ok tt)
unfolding parts_at shapes_at data_count_text shapes_text header_text spelling
parts_take bytes x fits e =
    let header = bind_ok _ _ _ e in
    let shapes = bind_ok _ _ _ header.2 in
    let words = bind_ok _ _ _ shapes.2 in
    let regions = bind_ok _ _ _ words.2 in
    let functions = bind_ok _ _ _ regions.2 in
    let end = code_start + 4 * header.0.0.words in
    let version : ℕ = header.0.0.version in
    let one = version == 1 in
    let h = header_takes bytes header.0 fits header.1 in
    let s = shapes_take one header.0.0.data_count header.0.1 shapes.0 h.0.rest_fits shapes.1 in
    let w = items_take (number_at w32) (λ y. y) (λ _. tt) (λ _ _. Ok tt) (to_be_bytes w32) (λ y z f k. word_takes y z f k) header.0.0.words shapes.0.1 words.0 s.0.rest_fits words.1 in
    let d = regions_take shapes.0.0 words.0.1 regions.0 w.0.rest_fits regions.1 in
    let f = items_take (function_at version end) (λ y. y.1) (λ y. y.0) (function_keeps version end) (function_text version)
    (λ y z g k. function_takes version end y.0 y.1 z g k) header.0.0.functions
    ((Exactly code_start, 0), regions.0.1) functions.0 d.0.rest_fits functions.1 in
    let lists = Takes-then _ _ _ _ _ (Takes-then _ _ _ _ _ (Takes-then _ _ _ _ _ (Takes-then _ _ _ _ _ h.0 s.0) w.0) d.0) f.0 in
    let r = regions_read one header.0.0.data_count shapes.0.0 regions.0.0 s.1 d.1 h.1.data_count in
    let counted : Header =
    record {
      version = header.0.0.version;
      services = header.0.0.services;
      words = length words.0.0;
      data_count =
          if one then byte_count regions.0.0 else length regions.0.0;
      stack_pages = header.0.0.stack_pages;
      functions = length functions.0.0;
    } in
    let same : header.0.0 ≡ counted = header_counted header.0.0 _ _ _ w.1 (sym r.count) f.1 in
    let whole = subst
    (λ (g : Header). Takes bytes
    (counts_text g ++ shapes_code one shapes.0.0 ++ flat_map (to_be_bytes w32) words.0.0 ++ flat_map region_text regions.0.0
    ++ flat_map (function_text version) functions.0.0) functions.0.1.1) same lists in
    let k : HeaderKeeps counted = subst HeaderKeeps same h.1 in
    let in_turn : each (function_keeps version (code_start + 4 * length words.0.0)) (Exactly code_start, 0) functions.0.0 ≡ Ok functions.0.1.0 =
    subst (λ (n : ℕ). each (function_keeps version (code_start + 4 * n)) (Exactly code_start, 0) functions.0.0 ≡ Ok functions.0.1.0) (sym w.1) f.2 in
    let lengths =
    subst (λ (t : List ℕ). Takes bytes
    (counts_text counted ++ t ++ flat_map (to_be_bytes w32) words.0.0 ++ flat_map region_text regions.0.0
    ++ flat_map (function_text version) functions.0.0) functions.0.1.1) r.spelled whole in
    let named = subst
    (λ (t : List ℕ). Takes bytes
    (to_be_bytes w32 0x53425838 ++ to_be_bytes w16 header.0.0.version ++ to_be_bytes w16 header.0.0.services.0 ++ to_be_bytes w32 (length words.0.0) ++ t
    ++ to_be_bytes w16 header.0.0.stack_pages ++ to_be_bytes w16 (length functions.0.0)
    ++ (if one then [] else flat_map shape_text regions.0.0) ++ flat_map (to_be_bytes w32) words.0.0 ++ flat_map region_text regions.0.0
    ++ flat_map (function_text version) functions.0.0) functions.0.1.1) (data_of one regions.0.0) lengths in
    let made : Parts × List ℕ = (
      record {
        version = header.0.0.version;
        services = header.0.0.services;
        words = words.0.0;
        regions = regions.0.0;
        stack_pages =
            header.0.0.stack_pages;
        functions = functions.0.0;
      },
      functions.0.1.1,
    ) in
    subst (λ (y : Parts × List ℕ). Takes bytes (spelling y.0) y.1 × (parts_keep y.0 ≡ Ok tt)) (ok_is made x functions.2)
    (named, parts_keep_by made.0 r.pages functions.0.1.0 k.version k.services k.words r.kept k.stack_pages k.functions r.lengths in_turn)

pub reading_takes : (bytes : List ℕ) (p : Parts) → IsBytes bytes → reading bytes ≡ Ok p → (bytes ≡ spelling p) × (parts_keep p ≡ Ok tt)
unfolding reading
reading_takes bytes p fits e =
    let parts = bind_ok _ _ _ e in
    let ended = wanted (eqb (length parts.0.1) 0) fault.Trailing _ _ parts.2 in
    let t = parts_take bytes parts.0 fits parts.1 in
    let nothing : parts.0.1 ≡ [] = nil_from_length parts.0.1 (eqb-true _ _ ended.0) in
    let whole : bytes ≡ spelling parts.0.0 = t.0.parts ∙ ap (λ (r : List ℕ). spelling parts.0.0 ++ r) nothing ∙ append-nil (spelling parts.0.0) in
    subst (λ (q : Parts). (bytes ≡ spelling q) × (parts_keep q ≡ Ok tt)) (ok_is parts.0.0 p ended.1) (whole, t.1)

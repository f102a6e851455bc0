-- What loops over cells and terms come by, an item at a time.
use Rattle.std.proofs.Common.{◌≡◌, ℕ, zero, suc, ◌+◌, ◌*◌, ◌^◌, ◌<◌, ◌≤◌, Bool, true, false, List, [], ◌∷◌, ◌++◌, get_or, drop, take, map, length, Some, None}
use Rattle.std.proofs.Common.{refl, sym, ap, ◌∙◌, append_assoc, arith, add-one}
use Rattle.std.specs.Prelude.{◌==◌, ◌||◌, if◌then◌else◌, Option, ℤ, pos, negsuc, neg_ℤ, ◌*ℤ◌, slice_get, unsigned_abs}
use Rattle.std.specs.Option.{is_some}
use Rattle.std.proofs.Math.Seq.{drop-cons}
use Rattle.std.proofs.lemmas.List.{drop_all}
use Rattle.std.proofs.lemmas.Int.{unsigned_abs-mul}
use Rattle.std.proofs.lemmas.Bool.Decides.{nat_tests}
use Rattle.sbx_image.specs.Cell.{Cell}
use Rattle.sbx_image.specs.Range.{Range}
use Rattle.sbx_image.specs.Term.{Term}
use Rattle.sbx_form.specs.declared.terms.FormTerm.{FormTerm}
use Rattle.sbx_form.specs.Forms.{AreWithin, add_term, add_terms}
use Rattle.sbx_form.proofs.Bounds.{added_within, wider_bound}
use Rattle.sbx_form.proofs.Ordered.{sums_stay_in_order}
use Rattle.sbx_rules.specs.Known.{Known, cell_entry, entry_of_cell, form_at, is_location, range_at, range_of_entry, started}
use Rattle.sbx_rules.specs.Ways.{counted, form_term, names_cell, out_cells}
use Rattle.sbx_fuel.specs.Least.{negated}
use Rattle.sbx_fuel.specs.Margins.{less_terms, start_terms}

-- ---- cells

pub cell_here : (cells : List Cell) (i : ℕ) (d : Cell) (l : ℕ) → i < length cells → (get_or cells i d).location ≡ l
    → cell_entry (drop i cells) l ≡ Some (entry_of_cell (get_or cells i d))
unfolding cell_entry
cell_here cells i d l room same =
    let e : ((get_or cells i d).location == l) ≡ true = grind (arith, nat_tests) in
    ap (λ cs. cell_entry cs l) (drop-cons cells i d room)
    ∙ ap (λ b. if b then Some (entry_of_cell (get_or cells i d)) else cell_entry (drop (suc i) cells) l) e

pub cell_past : (cells : List Cell) (i : ℕ) (d : Cell) (l : ℕ) → i < length cells → ((get_or cells i d).location ≡ l → ⊥)
    → cell_entry (drop i cells) l ≡ cell_entry (drop (i + 1) cells) l
unfolding cell_entry
cell_past cells i d l room other =
    let e : ((get_or cells i d).location == l) ≡ false = grind (arith, nat_tests, other) in
    ap (λ cs. cell_entry cs l) (drop-cons cells i d room)
    ∙ (ap (λ b. if b then Some (entry_of_cell (get_or cells i d)) else cell_entry (drop (suc i) cells) l) e
    ∙ ap (λ n. cell_entry (drop n cells) l) (sym (add-one i)))

pub cells_done : (cells : List Cell) (i : ℕ) (l : ℕ) → length cells ≤ i → cell_entry (drop i cells) l ≡ None
unfolding cell_entry
cells_done cells i l past = ap (λ cs. cell_entry cs l) (drop_all i cells past)

pub started_at : (cells : List Cell) (l : ℕ) → 0 < l → l < 1040 → range_at (started cells) l ≡ range_of_entry (cell_entry cells l)
unfolding started
started_at cells l low high =
    let e : is_location l ≡ true = grind (arith, nat_tests) in
    ap (λ b. range_of_entry (if b then cell_entry cells l else None)) e

pub not_started : (cells : List Cell) (l : ℕ) → is_location l ≡ false → range_at (started cells) l ≡ None
unfolding started
not_started cells l e = ap (λ b. range_of_entry (if b then cell_entry cells l else None)) e

pub no_location_0 : (l : ℕ) → l ≤ 0 → is_location l ≡ false
no_location_0 l h = grind (arith, nat_tests)

pub no_location_past : (l : ℕ) → 1040 ≤ l → is_location l ≡ false
no_location_past l h = grind (arith, nat_tests)

pub before_params : (n : ℕ) (params : List Range) (l : ℕ) → l < n → cell_entry (out_cells n params) l ≡ None
unfolding cell_entry
before_params n [] l h = refl
before_params n (r ∷ rs) l h =
    let e : (n == l) ≡ false = grind (arith, nat_tests) in
    ap (λ b. if b then Some (entry_of_cell (record { location = n; range = r })) else cell_entry (out_cells (suc n) rs) l) e
    ∙ before_params (suc n) rs l (omega arith)

pub param_is : (n : ℕ) (params : List Range) (l : ℕ) (k : ℕ) → l ≡ n + k → range_of_entry (cell_entry (out_cells n params) l) ≡ slice_get params k
unfolding cell_entry
param_is n [] l k h = refl
param_is n (r ∷ rs) l zero h =
    let e : (n == l) ≡ true = grind (arith, nat_tests) in
    ap (λ b. range_of_entry (if b then Some (entry_of_cell (record { location = n; range = r })) else cell_entry (out_cells (suc n) rs) l)) e
param_is n (r ∷ rs) l (suc k) h =
    let e : (n == l) ≡ false = grind (arith, nat_tests) in
    ap (λ b. range_of_entry (if b then Some (entry_of_cell (record { location = n; range = r })) else cell_entry (out_cells (suc n) rs) l)) e
    ∙ param_is (suc n) rs l k (omega arith)

named_by_test : (c : Cell) (l : ℕ) (cs : List Cell) (b : Bool) → names_cell cs l ≡ is_some (range_of_entry (cell_entry cs l))
    → (b || names_cell cs l) ≡ is_some (range_of_entry (if b then Some (entry_of_cell c) else cell_entry cs l))
named_by_test c l cs true rest = refl
named_by_test c l cs false rest = rest

named : (cs : List Cell) (l : ℕ) → names_cell cs l ≡ is_some (range_of_entry (cell_entry cs l))
unfolding cell_entry
named [] l = refl
named (c ∷ cs) l = named_by_test c l cs (c.location == l) (named cs l)

pub names_is : (cells : List Cell) (l : ℕ) (o : Option Range) → o ≡ range_of_entry (cell_entry cells l) → names_cell cells l ≡ is_some o
names_is cells l o e = named cells l ∙ ap is_some (sym e)

-- ---- terms

pub one_counted : (cells : List Cell) (ts : List Term) (i : ℕ) (d : Term) (done total : List FormTerm) → i < length ts → names_cell cells (get_or ts i d).location ≡ true
    → done ++ counted cells (drop i ts) ≡ total → (done ++ form_term (get_or ts i d) ∷ []) ++ counted cells (drop (i + 1) ts) ≡ total
one_counted cells ts i d done total room named so =
    let t = get_or ts i d in
    let rest = counted cells (drop (suc i) ts) in
    let e : counted cells (drop i ts) ≡ form_term t ∷ rest =
    ap (counted cells) (drop-cons ts i d room) ∙ ap (λ (b : Bool). if b then form_term t ∷ rest else rest) named in
    append_assoc done (form_term t ∷ []) (counted cells (drop (i + 1) ts))
    ∙ (ap (λ n. done ++ form_term t ∷ counted cells (drop n ts)) (add-one i) ∙ (ap (λ us. done ++ us) (sym e) ∙ so))

pub none_counted : (cells : List Cell) (ts : List Term) (i : ℕ) (d : Term) (done total : List FormTerm) → i < length ts → names_cell cells (get_or ts i d).location ≡ false
    → done ++ counted cells (drop i ts) ≡ total → done ++ counted cells (drop (i + 1) ts) ≡ total
none_counted cells ts i d done total room strange so =
    let t = get_or ts i d in
    let rest = counted cells (drop (suc i) ts) in
    let e : counted cells (drop i ts) ≡ rest =
    ap (counted cells) (drop-cons ts i d room) ∙ ap (λ (b : Bool). if b then form_term t ∷ rest else rest) strange in
    ap (λ n. done ++ counted cells (drop n ts)) (add-one i) ∙ (ap (λ us. done ++ us) (sym e) ∙ so)

pub negated_within : (m : ℕ) (ts : List FormTerm) → AreWithin m ts → AreWithin m (map negated ts)
negated_within m [] h = tt
negated_within m (t ∷ ts) h = (same t.coefficient h.0, negated_within m ts h.1)
  where
    same : (z : ℤ) → unsigned_abs z ≤ m → unsigned_abs (neg_ℤ z) ≤ m
    same (pos zero) p = p
    same (pos (suc n)) p = p
    same (negsuc n) p = p

pub within_front : (m k : ℕ) (ts : List FormTerm) → AreWithin m ts → AreWithin m (take k ts)
within_front m zero ts h = tt
within_front m (suc k) [] h = tt
within_front m (suc k) (t ∷ ts) h = (h.0, within_front m k ts h.1)

pub within_push : (m : ℕ) (ts : List FormTerm) (t : FormTerm) → AreWithin m ts → unsigned_abs t.coefficient ≤ m → AreWithin m (ts ++ t ∷ [])
within_push m [] t h small = (small, tt)
within_push m (u ∷ ts) t h small = (h.0, within_push m ts t h.1 small)

-- ---- sums

mono : (a b : ℕ) → a ≤ 2 ^ 31 → b ≤ 2 ^ 40 → a * b ≤ 2 ^ 71
mono a b p q = grind arith

pub product_small : (k c : ℤ) → unsigned_abs k ≤ 2 ^ 31 → unsigned_abs c ≤ 2 ^ 40 → unsigned_abs (k *ℤ c) ≤ 2 ^ 71
product_small k c p q = let e = unsigned_abs-mul k c in let m = mono (unsigned_abs k) (unsigned_abs c) p q in omega arith

pub product_within : (k c : ℤ) → unsigned_abs k ≤ 2 ^ 31 → unsigned_abs c ≤ 2 ^ 32 → unsigned_abs (k *ℤ c) ≤ 2 ^ 63
product_within k c p q = let e = unsigned_abs-mul k c in let m = lib-mono (unsigned_abs k) (unsigned_abs c) p q in omega arith
  where
    lib-mono : (a b : ℕ) → a ≤ 2 ^ 31 → b ≤ 2 ^ 32 → a * b ≤ 2 ^ 63
    lib-mono a b p q = grind arith

pub sums_within : (k : ℤ) (us ts : List FormTerm) (m : ℕ) → unsigned_abs k ≤ 2 ^ 31 → AreWithin (2 ^ 32) us → AreWithin m ts → AreWithin (m + length us * 2 ^ 63) (add_terms k us ts)
unfolding add_terms
sums_within k [] ts m p q h = wider_bound m (m + 0) ts (omega arith) h
sums_within k (u ∷ us) ts m p q h =
    let one = added_within m (2 ^ 63) u.location (k *ℤ u.coefficient) ts (product_within k u.coefficient p q.0) h in
    let rest = sums_within k us (add_term u.location (k *ℤ u.coefficient) ts) (m + 2 ^ 63) p q.1 one in
    wider_bound ((m + 2 ^ 63) + length us * 2 ^ 63) (m + suc (length us) * 2 ^ 63) (add_terms k us (add_term u.location (k *ℤ u.coefficient) ts)) (omega arith) rest

pub sums_few : (k : ℤ) (us ts : List FormTerm) → length (add_terms k us ts) ≤ length ts + length us
unfolding add_terms
sums_few k [] ts = omega arith
sums_few k (u ∷ us) ts =
    let one = sums_stay_in_order.few u.location (k *ℤ u.coefficient) ts in
    let rest = sums_few k us (add_term u.location (k *ℤ u.coefficient) ts) in
    omega arith

pub start_more : (now : Known) (next terms : List FormTerm) (i : ℕ) (d : FormTerm) (total : List FormTerm) → i < length next → start_terms now (drop i next) terms ≡ total
    → start_terms now (drop (i + 1) next) (less_terms (get_or next i d).coefficient (form_at now (get_or next i d).location) terms) ≡ total
unfolding start_terms
start_more now next terms i d total room so =
    ap (λ n. start_terms now (drop n next) (less_terms (get_or next i d).coefficient (form_at now (get_or next i d).location) terms)) (add-one i)
    ∙ (ap (λ us. start_terms now us terms) (sym (drop-cons next i d room)) ∙ so)

pub start_all : (now : Known) (next terms : List FormTerm) (i : ℕ) (total : List FormTerm) → length next ≤ i → start_terms now (drop i next) terms ≡ total → terms ≡ total
unfolding start_terms
start_all now next terms i total past so = ap (λ us. start_terms now us terms) (sym (drop_all i next past)) ∙ so

-- One more term, as the code finds its place.
use Rattle.std.proofs.Common.{◌≡◌, ℕ, zero, suc, ◌+◌, ◌<◌, ◌≤◌, Bool, true, false, List, [], ◌∷◌, ◌++◌, length, get_or, take, drop, refl, sym, ap, ◌∙◌, subst}
use Rattle.std.proofs.Common.{arith, append_assoc, add-one, add-zero, length-drop}
use Rattle.std.specs.Prelude.{◌==◌, nat_lt, if◌then◌else◌, ℤ, pos, negsuc, ◌+ℤ◌}
use Rattle.std.specs.List.{remove}
use Rattle.std.proofs.Math.Seq.{drop-cons}
use Rattle.std.proofs.lemmas.List.{take_more, get_or-drop, drop_all}
use Rattle.std.proofs.lemmas.Int.{ints}
use Rattle.std.proofs.lemmas.Bool.Decides.{nat_tests}
use Rattle.sbx_form.specs.declared.terms.FormTerm.{FormTerm}
use Rattle.sbx_form.specs.Forms.{keep, add_term, Ends, least_term, least_terms}

skips : (l : ℕ) (c : ℤ) (t : FormTerm) (ts : List FormTerm) → t.location < l → add_term l c (t ∷ ts) ≡ t ∷ add_term l c ts
unfolding add_term
skips l c t ts h =
    let below : nat_lt l t.location ≡ false = grind (arith, nat_tests) in
    let apart : (l == t.location) ≡ false = grind (arith, nat_tests) in
    ap (λ (x : Bool). if x then keep l c (t ∷ ts) else (if l == t.location then keep l (c +ℤ t.coefficient) ts else (t ∷ add_term l c ts))) below
    ∙ ap (λ (x : Bool). if x then keep l (c +ℤ t.coefficient) ts else (t ∷ add_term l c ts)) apart

pub skips_more : (l : ℕ) (c : ℤ) (xs : List FormTerm) (i : ℕ) (t : FormTerm) → i < length xs → t ≡ get_or xs i t → t.location < l
    → add_term l c xs ≡ take i xs ++ add_term l c (drop i xs) → add_term l c xs ≡ take (i + 1) xs ++ add_term l c (drop (i + 1) xs)
skips_more l c xs i t room is below so =
    let d : drop i xs ≡ t ∷ drop (i + 1) xs = drop-cons xs i t room ∙ (ap (λ y. y ∷ drop (suc i) xs) (sym is) ∙ ap (λ n. t ∷ drop n xs) (sym (add-one i))) in
    let m : take (i + 1) xs ≡ take i xs ++ t ∷ [] = take_more xs i t room ∙ ap (λ y. take i xs ++ y ∷ []) (sym is) in
    so ∙ (ap (λ ys. take i xs ++ add_term l c ys) d ∙ (ap (λ ys. take i xs ++ ys) (skips l c t (drop (i + 1) xs) below)
    ∙ (sym (append_assoc (take i xs) (t ∷ []) (add_term l c (drop (i + 1) xs))) ∙ ap (λ ys. ys ++ add_term l c (drop (i + 1) xs)) (sym m))))

-- at a place with this location
pub meets : (l : ℕ) (c : ℤ) (xs : List FormTerm) (i : ℕ) (t : FormTerm) → i < length xs → t ≡ get_or xs i t → t.location ≡ l
    → add_term l c xs ≡ take i xs ++ add_term l c (drop i xs) → add_term l c xs ≡ take i xs ++ keep l (c +ℤ t.coefficient) (drop (suc i) xs)
unfolding add_term
meets l c xs i t room is same so =
    let d : drop i xs ≡ t ∷ drop (suc i) xs = drop-cons xs i t room ∙ ap (λ y. y ∷ drop (suc i) xs) (sym is) in
    let below : nat_lt l t.location ≡ false = grind (arith, nat_tests) in
    let at : (l == t.location) ≡ true = grind (arith, nat_tests) in
    let ts = drop (suc i) xs in
    so ∙ (ap (λ ys. take i xs ++ add_term l c ys) d
    ∙ (ap (λ (x : Bool). take i xs ++ (if x then keep l c (t ∷ ts) else (if l == t.location then keep l (c +ℤ t.coefficient) ts else (t ∷ add_term l c ts)))) below
    ∙ ap (λ (x : Bool). take i xs ++ (if x then keep l (c +ℤ t.coefficient) ts else (t ∷ add_term l c ts))) at))

-- at a place past this location, or at the end
pub misses : (l : ℕ) (c : ℤ) (ts : List FormTerm) → ((t : FormTerm) → 0 < length ts → l < (get_or ts 0 t).location) → add_term l c ts ≡ keep l c ts
unfolding add_term
misses l c [] h = refl
misses l c (t ∷ ts) h =
    let past : l < t.location = h t (omega arith) in
    let below : nat_lt l t.location ≡ true = grind (arith, nat_tests) in
    ap (λ (x : Bool). if x then keep l c (t ∷ ts) else (if l == t.location then keep l (c +ℤ t.coefficient) ts else (t ∷ add_term l c ts))) below

plus_none : (c : ℤ) → c ≡ c +ℤ pos 0
plus_none (pos n) = ap pos (omega arith)
plus_none (negsuc n) = omega (arith, ints)

removed-take : (xs : List FormTerm) (i : ℕ) → i < length xs → take i (remove xs i) ≡ take i xs
removed-take [] i h = absurd (omega arith)
removed-take (x ∷ xs) zero h = refl
removed-take (x ∷ xs) (suc i) h = ap (λ ys. x ∷ ys) (removed-take xs i (omega arith))

removed-drop : (xs : List FormTerm) (i : ℕ) → i < length xs → drop i (remove xs i) ≡ drop (suc i) xs
removed-drop [] i h = absurd (omega arith)
removed-drop (x ∷ xs) zero h = refl
removed-drop (x ∷ xs) (suc i) h = removed-drop xs i (omega arith)

pub meets_removed : (l : ℕ) (c : ℤ) (xs ys : List FormTerm) (i : ℕ) (t : FormTerm) → i < length xs → t ≡ get_or xs i t → t.location ≡ l → ys ≡ remove xs i
    → add_term l c xs ≡ take i xs ++ add_term l c (drop i xs) → add_term l c xs ≡ take i ys ++ keep l (c +ℤ t.coefficient) (drop i ys)
meets_removed l c xs ys i t room is same e so =
    let F : List FormTerm → Type 0 = λ zs. add_term l c xs ≡ take i zs ++ keep l (c +ℤ t.coefficient) (drop i zs) in
    let p : add_term l c xs ≡ take i (remove xs i) ++ keep l (c +ℤ t.coefficient) (drop i (remove xs i)) =
    rw (removed-take xs i room, removed-drop xs i room) (meets l c xs i t room is same so) in
    subst F (sym e) p

pub misses_here : (l : ℕ) (c : ℤ) (xs : List FormTerm) (i : ℕ) → ((t : FormTerm) → i < length xs → l < (get_or xs i t).location)
    → add_term l c xs ≡ take i xs ++ add_term l c (drop i xs) → add_term l c xs ≡ take i xs ++ keep l (c +ℤ pos 0) (drop i xs)
misses_here l c xs i past so =
    so ∙ (ap (λ ys. take i xs ++ ys) (misses l c (drop i xs) (λ t h. rw (get_or-drop i xs 0 t, add-zero i) (past t (let n = length-drop i xs in omega arith))))
    ∙ ap (λ z. take i xs ++ keep l z (drop i xs)) (plus_none c))

-- a loop that adds up least values
pub least_more : (ends : Ends) (ts : List FormTerm) (i : ℕ) (d : FormTerm) (least here total : ℤ) → i < length ts → here ≡ least_term ends (get_or ts i d)
    → least +ℤ least_terms ends (drop i ts) ≡ total → (least +ℤ here) +ℤ least_terms ends (drop (i + 1) ts) ≡ total
unfolding least_terms
least_more ends ts i d least here total room is so =
    let e = ap (least_terms ends) (drop-cons ts i d room) in
    let f = ap (λ n. least_terms ends (drop n ts)) (add-one i) in
    omega (arith, ints)

pub least_all : (ends : Ends) (ts : List FormTerm) (i : ℕ) (least total : ℤ) → length ts ≤ i → least +ℤ least_terms ends (drop i ts) ≡ total → least ≡ total
unfolding least_terms
least_all ends ts i least total past so = let e = ap (least_terms ends) (drop_all i ts past) in omega (arith, ints)

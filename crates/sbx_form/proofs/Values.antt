-- The laws of linear forms.
use Rattle.std.proofs.Common.{◌≡◌, ℕ, suc, ◌+◌, ◌*◌, ◌<◌, Bool, true, false, List, [], ◌∷◌, refl, sym, ap, ◌∙◌, arith}
use Rattle.std.specs.Prelude.{◌==◌, nat_lt, if◌then◌else◌, ℤ, pos, ◌+ℤ◌, ◌*ℤ◌, ◌≤ℤ◌, int_lt}
use Rattle.std.specs.Ordering.{int_eq}
use Rattle.std.proofs.lemmas.Bool.Decides.{nat_tests, Decides-int_eq, Decides-eqb}
use Rattle.std.proofs.lemmas.Int.{ints}
use borrow.Author.Differences.{up, down}
use Rattle.sbx_form.specs.declared.terms.FormTerm.{FormTerm}
use Rattle.sbx_form.specs.Forms.{Cells, terms_value, keep, add_term, add_terms, AscendFrom, Ends, Within, least_term, least_terms}
use Rattle.sbx_range.proofs.Products.{between-first}

-- a property of the list that a test chooses
pub by_test : (t : Bool) (P : List FormTerm → Type 0) (r s : List FormTerm) → (t ≡ true → P r) → (t ≡ false → P s) → P (if t then r else s)
by_test true P r s when_true when_false = when_true refl
by_test false P r s when_true when_false = when_false refl

times-none : (v c : ℤ) → c ≡ pos 0 → v *ℤ c ≡ pos 0
times-none v c e = ap (λ d. v *ℤ d) e ∙ omega (arith, ints)

value-keep : (cells : Cells) (l : ℕ) (c : ℤ) (ts : List FormTerm) → terms_value cells (keep l c ts) ≡ (cells l *ℤ c) +ℤ terms_value cells ts
value-keep cells l c ts =
    by_test (int_eq c (pos 0)) (λ r. terms_value cells r ≡ (cells l *ℤ c) +ℤ terms_value cells ts) _ _
    (λ t. let e = times-none (cells l) c ((Decides-int_eq c (pos 0)).0 t) in omega (arith, ints))
    (λ _. refl)

times-sum : (v c d : ℤ) → v *ℤ (c +ℤ d) ≡ (v *ℤ c) +ℤ (v *ℤ d)
times-sum v c d =
    let e : up (c +ℤ d) + (down c + down d) ≡ (up c + up d) + down (c +ℤ d) = omega (arith, ints) in
    let p = ap (λ n. up v * n) e in
    let q = ap (λ n. down v * n) e in
    omega (arith, ints)

pub value-add_term : (cells : Cells) (l : ℕ) (c : ℤ) (ts : List FormTerm) → terms_value cells (add_term l c ts) ≡ (cells l *ℤ c) +ℤ terms_value cells ts
unfolding add_term
value-add_term cells l c [] = value-keep cells l c []
value-add_term cells l c (t ∷ ts) =
    let P : List FormTerm → Type 0 = λ r. terms_value cells r ≡ (cells l *ℤ c) +ℤ ((cells t.location *ℤ t.coefficient) +ℤ terms_value cells ts) in
    by_test (nat_lt l t.location) P _ _
    (λ _. value-keep cells l c (t ∷ ts))
    (λ _. by_test (l == t.location) P _ _
    (λ s. let k = value-keep cells l (c +ℤ t.coefficient) ts in
    let e : cells l ≡ cells t.location = ap cells ((Decides-eqb l t.location).0 s) in
    let m = times-sum (cells l) c t.coefficient in
    let n : cells l *ℤ t.coefficient ≡ cells t.location *ℤ t.coefficient = ap (λ v. v *ℤ t.coefficient) e in
    omega (arith, ints))
    (λ _. let i = value-add_term cells l c ts in omega (arith, ints)))

times-times : (k v c : ℤ) → v *ℤ (k *ℤ c) ≡ k *ℤ (v *ℤ c)
times-times k v c =
    let e : up (k *ℤ c) + (up k * down c + down k * up c) ≡ (up k * up c + down k * down c) + down (k *ℤ c) = omega (arith, ints) in
    let f : up (v *ℤ c) + (up v * down c + down v * up c) ≡ (up v * up c + down v * down c) + down (v *ℤ c) = omega (arith, ints) in
    let p = ap (λ n. up v * n) e in
    let q = ap (λ n. down v * n) e in
    let r = ap (λ n. up k * n) f in
    let s = ap (λ n. down k * n) f in
    omega (arith, ints)

pub value-add_terms : (cells : Cells) (k : ℤ) (us ts : List FormTerm) → terms_value cells (add_terms k us ts) ≡ (k *ℤ terms_value cells us) +ℤ terms_value cells ts
unfolding add_terms
value-add_terms cells k [] ts = omega (arith, ints)
value-add_terms cells k (u ∷ us) ts =
    let i = value-add_terms cells k us (add_term u.location (k *ℤ u.coefficient) ts) in
    let j = value-add_term cells u.location (k *ℤ u.coefficient) ts in
    let m = times-times k (cells u.location) u.coefficient in
    let n = times-sum k (cells u.location *ℤ u.coefficient) (terms_value cells us) in
    omega (arith, ints)

pub least-below : (ends : Ends) (cells : Cells) (ts : List FormTerm) → Within ends cells → least_terms ends ts ≤ℤ terms_value cells ts
unfolding least_terms
least-below ends cells [] w = omega (arith, ints)
least-below ends cells (t ∷ ts) w =
    let b = (between-first (ends.lo t.location) (ends.hi t.location) (cells t.location) t.coefficient (w.low t.location) (w.high t.location)).0 in
    let i = least-below ends cells ts w in
    omega (arith, ints)

le_z_refl : (z : ℤ) → z ≤ℤ z
le_z_refl z = omega (arith, ints)

-- the numbers at which terms are least
worst : Ends → List FormTerm → Cells
worst ends [] l = ends.lo l
worst ends (t ∷ ts) l =
    if l == t.location then (if int_lt (ends.hi l *ℤ t.coefficient) (ends.lo l *ℤ t.coefficient) then ends.hi l else ends.lo l)
    else worst ends ts l

-- a value that a test chooses
by_case : (t : Bool) (P : ℤ → Type 0) (r s : ℤ) → (t ≡ true → P r) → (t ≡ false → P s) → P (if t then r else s)
by_case true P r s when_true when_false = when_true refl
by_case false P r s when_true when_false = when_false refl

worst-within : (ends : Ends) (ts : List FormTerm) → ((l : ℕ) → ends.lo l ≤ℤ ends.hi l) → Within ends (worst ends ts)
unfolding worst
worst-within ends [] some = record { low = λ l. le_z_refl (ends.lo l); high = some }
worst-within ends (t ∷ ts) some =
    let i = worst-within ends ts some in
    record {
      low = λ l. by_case (l == t.location) (λ z. ends.lo l ≤ℤ z) _ _
          (λ _. by_case (int_lt (ends.hi l *ℤ t.coefficient) (ends.lo l *ℤ t.coefficient)) (λ z. ends.lo l ≤ℤ z) _ _ (λ _. some l) (λ _. le_z_refl (ends.lo l)))
          (λ _. i.low l);
      high = λ l. by_case (l == t.location) (λ z. z ≤ℤ ends.hi l) _ _
          (λ _. by_case (int_lt (ends.hi l *ℤ t.coefficient) (ends.lo l *ℤ t.coefficient)) (λ z. z ≤ℤ ends.hi l) _ _ (λ _. le_z_refl (ends.hi l)) (λ _. some l))
          (λ _. i.high l);
    }

-- a term before all of these leaves their value
worst-later : (ends : Ends) (t : FormTerm) (us ts : List FormTerm) (n : ℕ) → AscendFrom n ts → t.location < n → terms_value (worst ends (t ∷ us)) ts ≡ terms_value (worst ends us) ts
unfolding worst
worst-later ends t us [] n a b = refl
worst-later ends t us (u ∷ ts) n a b =
    let after = a.0 in
    let i = worst-later ends t us ts (suc u.location) a.1 (omega arith) in
    let e : (u.location == t.location) ≡ false = grind (arith, nat_tests) in
    let same : worst ends (t ∷ us) u.location ≡ worst ends us u.location =
    ap (λ (x : Bool). if x
    then (if int_lt (ends.hi u.location *ℤ t.coefficient) (ends.lo u.location *ℤ t.coefficient) then ends.hi u.location else ends.lo u.location)
    else worst ends us u.location) e in
    let m : worst ends (t ∷ us) u.location *ℤ u.coefficient ≡ worst ends us u.location *ℤ u.coefficient = ap (λ z. z *ℤ u.coefficient) same in
    omega (arith, ints)

worst-here : (ends : Ends) (t : FormTerm) (ts : List FormTerm) → worst ends (t ∷ ts) t.location *ℤ t.coefficient ≡ least_term ends t
unfolding worst
worst-here ends t ts =
    let e : (t.location == t.location) ≡ true = grind (arith, nat_tests) in
    let l = t.location in
    ap (λ (x : Bool). (if x then (if int_lt (ends.hi l *ℤ t.coefficient) (ends.lo l *ℤ t.coefficient) then ends.hi l else ends.lo l) else worst ends ts l) *ℤ t.coefficient) e
    ∙ by_case (int_lt (ends.hi l *ℤ t.coefficient) (ends.lo l *ℤ t.coefficient)) (λ z. z *ℤ t.coefficient ≡ least_term ends t) _ _
    (λ s. sym (ap (λ (x : Bool). if x then ends.hi l *ℤ t.coefficient else ends.lo l *ℤ t.coefficient) s))
    (λ s. sym (ap (λ (x : Bool). if x then ends.hi l *ℤ t.coefficient else ends.lo l *ℤ t.coefficient) s))

worst-value : (ends : Ends) (n : ℕ) (ts : List FormTerm) → AscendFrom n ts → terms_value (worst ends ts) ts ≡ least_terms ends ts
unfolding least_terms
worst-value ends n [] a = refl
worst-value ends n (t ∷ ts) a =
    let h = worst-here ends t ts in
    let l = worst-later ends t ts ts (suc t.location) a.1 (omega arith) in
    let i = worst-value ends (suc t.location) ts a.1 in
    omega (arith, ints)

pub least-reached : (ends : Ends) (n : ℕ) (ts : List FormTerm) → ((l : ℕ) → ends.lo l ≤ℤ ends.hi l) → AscendFrom n ts →
    (cells : Cells) × Within ends cells × (terms_value cells ts ≡ least_terms ends ts)
least-reached ends n ts some a = (worst ends ts, worst-within ends ts some, worst-value ends n ts a)

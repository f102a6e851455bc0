-- What the head of a line is, where the bytes of a token stand there and a byte that ends it comes next.
use Rattle.std.proofs.Common.{◌≡◌, ℕ, zero, suc, ◌+◌, ◌-◌, ◌^◌, ◌<◌, ◌≤◌, Bool, true, false, cond, List, [], ◌∷◌, ◌++◌, length, take, get_or, refl, sym, ap, subst, ◌∙◌, arith, eqb, ltb, leb}
use Rattle.std.specs.Prelude.{◌&&◌, ◌||◌}
use Rattle.std.specs.List.{prefix_len}
use Rattle.std.specs.Char.{is_digit, digit_value}
use Rattle.std.specs.Fmt.{decimal}
use Rattle.std.specs.Str.Parse.{digits_value, AllDigits}
use Rattle.std.proofs.lemmas.Bool.{false≢true, cond_both, ltb-true, ltb-false, lt-ltb, eqb-true}
use Rattle.std.proofs.lemmas.Fmt.{decimal_is_IsNumeral}
use Rattle.std.proofs.Math.Seq.{take-append_seam}
use Rattle.sbx_text.specs.declared.scanning.Step.{Step}
use Rattle.sbx_text.specs.declared.scanning.Step.TheVariants.{Stop, Skip, Emit, Refuse}
use Rattle.sbx_text.specs.declared.fault.TextFault.TheVariants.{NumberTooLarge}
use Rattle.sbx_text.specs.declared.Kind.TheVariants.{Name, Percent, Number}
use Rattle.sbx_text.specs.Tokens.{front, is_blank, starts_name, continues_name, number_at, number_of, starts_hexadecimal}

-- the end of the line, or a byte that goes on with no name and no number
abbrev pub Stops : List ℕ → Type 0
Stops [] = Unit {0}
Stops (b ∷ bytes) = (continues_name b ≡ false) × (is_digit b 10 ≡ false)

abbrev pub all : (ℕ → Bool) → List ℕ → Bool
all p [] = true
all p (b ∷ bytes) = cond (p b) (all p bytes) false

run_step : (t a : Bool) (m n : ℕ) → cond t a false ≡ true → (a ≡ true → m ≡ n) → cond t (1 + m) 0 ≡ suc n
run_step true a m n h f = let e = f h in omega arith
run_step false a m n h f = absurd (false≢true h)

-- bytes in a row that pass, and none after them
pub run : (p : ℕ → Bool) (bytes rest : List ℕ) → all p bytes ≡ true → prefix_len p rest ≡ 0 → prefix_len p (bytes ++ rest) ≡ length bytes
run p [] rest h s = s
run p (b ∷ bytes) rest h s = run_step (p b) (all p bytes) (prefix_len p (bytes ++ rest)) (length bytes) h (λ a. run p bytes rest a s)

stops_name : (rest : List ℕ) → Stops rest → prefix_len continues_name rest ≡ 0
stops_name [] s = refl
stops_name (b ∷ rest) s = ap (λ t. cond t (1 + prefix_len continues_name rest) 0) s.0

abbrev is_decimal : ℕ → Bool
is_decimal b = is_digit b 10

stops_number : (rest : List ℕ) → Stops rest → prefix_len is_decimal rest ≡ 0
stops_number [] s = refl
stops_number (b ∷ rest) s = ap (λ t. cond t (1 + prefix_len is_decimal rest) 0) s.1

-- ---- names

abbrev opens_name : ℕ → Bool
opens_name b = cond (eqb b 33) false (cond (is_blank b) false (starts_name b))

-- the bytes of a name
abbrev pub is_name : List ℕ → Bool
is_name [] = false
is_name (b ∷ bytes) = cond (opens_name b) (all continues_name bytes) false

name_step : (x y z a : Bool) (n m : ℕ) (other : Step) → cond (cond x false (cond y false z)) a false ≡ true → (a ≡ true → n ≡ m)
    → cond x Stop (cond y Skip (cond z (Emit Name n) other)) ≡ Emit Name m
name_step true y z a n m other h f = absurd (false≢true h)
name_step false true z a n m other h f = absurd (false≢true h)
name_step false false true a n m other h f = ap (Emit Name) (f h)
name_step false false false a n m other h f = absurd (false≢true h)

pub name_front : (text rest : List ℕ) → is_name text ≡ true → Stops rest → front (text ++ rest) ≡ Emit Name (length text)
name_front [] rest h s = absurd (false≢true h)
name_front (b ∷ bytes) rest h s =
    name_step (eqb b 33) (is_blank b) (starts_name b) (all continues_name bytes) (1 + prefix_len continues_name (bytes ++ rest)) (suc (length bytes)) _ h
    (λ a. let e = run continues_name bytes rest a (stops_name rest s) in omega arith)

percent_step : (x y z c a : Bool) (n m : ℕ) (other : Step) → cond (cond x false (cond y false z)) a false ≡ true → (a ≡ true → n ≡ m)
    → cond z (Emit Percent (1 + cond (z || c) (1 + n) 0)) other ≡ Emit Percent (suc (suc m))
percent_step true y z c a n m other h f = absurd (false≢true h)
percent_step false true z c a n m other h f = absurd (false≢true h)
percent_step false false true c a n m other h f = let e = f h in ap (Emit Percent) (omega arith)
percent_step false false false c a n m other h f = absurd (false≢true h)

-- `%` and a name
pub percent_front : (text rest : List ℕ) → is_name text ≡ true → Stops rest → front (37 ∷ (text ++ rest)) ≡ Emit Percent (suc (length text))
percent_front [] rest h s = absurd (false≢true h)
percent_front (b ∷ bytes) rest h s =
    percent_step (eqb b 33) (is_blank b) (starts_name b) (leb 48 b && leb b 57) (all continues_name bytes) (prefix_len continues_name (bytes ++ rest)) (length bytes) _ h
    (λ a. run continues_name bytes rest a (stops_name rest s))

-- ---- numbers

-- what holds of each number below another
abbrev pub Below : (ℕ → Type 0) → ℕ → Type 0
Below P zero = Unit {0}
Below P (suc n) = Below P n × P n

pub at_below : (P : ℕ → Type 0) (n k : ℕ) → Below P n → k < n → P k
at_below P zero k all h = absurd (omega arith)
at_below P (suc n) k all h =
    cond_both (ltb k n) true false (λ _. P k) (λ t. at_below P n k all.0 (ltb-true k n t))
    (λ t. let ge : n ≤ k = ltb-false k n t in let e : n ≡ k = omega arith in subst P e all.1)

decimal_range : (b : ℕ) → digit_value b < 10 → (48 ≤ b) × (b < 58)
decimal_range b =
    cond_both (ltb b 48) 36 _ (λ v. v < 10 → (48 ≤ b) × (b < 58)) (λ t h. absurd (omega arith)) (λ t.
    cond_both (ltb b 58) (b - 48) _ (λ v. v < 10 → (48 ≤ b) × (b < 58)) (λ u h. (ltb-false b 48 t, ltb-true b 58 u)) (λ u.
    cond_both (ltb b 65) 36 _ (λ v. v < 10 → (48 ≤ b) × (b < 58)) (λ x h. absurd (omega arith)) (λ x.
    cond_both (ltb b 91) (b - 55) _ (λ v. v < 10 → (48 ≤ b) × (b < 58)) (λ y h. let ge = ltb-false b 65 x in absurd (omega arith)) (λ y.
    cond_both (ltb b 97) 36 _ (λ v. v < 10 → (48 ≤ b) × (b < 58)) (λ z h. absurd (omega arith)) (λ z.
    cond_both (ltb b 123) (b - 87) 36 (λ v. v < 10 → (48 ≤ b) × (b < 58)) (λ k h. let ge = ltb-false b 97 z in absurd (omega arith)) (λ k h. absurd (omega arith)))))))

-- a digit begins a number, and is no `x`
abbrev IsFigure : ℕ → Type 0
IsFigure b = (eqb b 33 ≡ false) × (is_blank b ≡ false) × (starts_name b ≡ false) × (eqb b 37 ≡ false) × (is_digit b 10 ≡ true) × (eqb b 120 ≡ false)

figures : Below (λ d. IsFigure (48 + d)) 10
figures = ((
  (
    (
      (
        (
          (
            (
              (((tt, (refl, refl, refl, refl, refl, refl)), (refl, refl, refl, refl, refl, refl)), (refl, refl, refl, refl, refl, refl)),
              (refl, refl, refl, refl, refl, refl),
            ),
            (refl, refl, refl, refl, refl, refl),
          ),
          (refl, refl, refl, refl, refl, refl),
        ),
        (refl, refl, refl, refl, refl, refl),
      ),
      (refl, refl, refl, refl, refl, refl),
    ),
    (refl, refl, refl, refl, refl, refl),
  ),
  (refl, refl, refl, refl, refl, refl),
))

figure : (b : ℕ) → digit_value b < 10 → IsFigure b
figure b h =
    let r = decimal_range b h in
    let small : b - 48 < 10 = omega arith in
    let e : 48 + (b - 48) ≡ b = omega arith in
    subst IsFigure e (at_below (λ d. IsFigure (48 + d)) 10 (b - 48) figures small)

all_figures : (ds : List ℕ) → AllDigits 10 ds → all is_decimal ds ≡ true
all_figures [] h = refl
all_figures (d ∷ ds) h = ap (λ t. cond t (all is_decimal ds) false) (figure d h.0).4 ∙ all_figures ds h.1

-- no `0x`: behind the first digit stands a digit, or a byte that goes on with no name
not_x : (b : ℕ) → continues_name b ≡ false → eqb b 120 ≡ false
not_x b h = by (eqb b 120) refl
  where
    by : (t : Bool) → eqb b 120 ≡ t → t ≡ false
    by true e = let same : b ≡ 120 = eqb-true b 120 e in absurd (false≢true (sym h ∙ ap continues_name same))
    by false e = refl

second_in : (ds rest : List ℕ) → AllDigits 10 ds → Stops rest → eqb (get_or (ds ++ rest) 0 0) 120 ≡ false
second_in [] [] h s = refl
second_in [] (b ∷ rest) h s = not_x b s.0
second_in (d ∷ ds) rest h s = (figure d h.0).5

no_prefix : (t u v x : Bool) → v ≡ false → cond t ((u && v) && x) false ≡ false
no_prefix false u v x h = refl
no_prefix true false v x h = refl
no_prefix true true v x h = ap (λ y. y && x) h

decimal_first : (d : ℕ) (ds rest : List ℕ) → AllDigits 10 ds → Stops rest → starts_hexadecimal (d ∷ (ds ++ rest)) ≡ false
decimal_first d ds rest h s = no_prefix (ltb 2 (suc (length (ds ++ rest)))) (eqb d 48) (eqb (get_or (ds ++ rest) 0 0) 120) (is_digit (get_or (ds ++ rest) 1 0) 16) (second_in ds rest h s)

number_step : (x y z p d hex : Bool) (hexadecimal written other : Step) → x ≡ false → y ≡ false → z ≡ false → p ≡ false → d ≡ true → hex ≡ false
    → (n : ℕ) (per : Step) → cond x Stop (cond y Skip (cond z (Emit Name n) (cond p per (cond d (cond hex hexadecimal written) other)))) ≡ written
number_step x y z p d hex hexadecimal written other ex ey ez ep ed eh n per =
    ap (λ t. cond t Stop (cond y Skip (cond z (Emit Name n) (cond p per (cond d (cond hex hexadecimal written) other))))) ex
    ∙ ap (λ t. cond t Skip (cond z (Emit Name n) (cond p per (cond d (cond hex hexadecimal written) other)))) ey
    ∙ ap (λ t. cond t (Emit Name n) (cond p per (cond d (cond hex hexadecimal written) other))) ez
    ∙ ap (λ t. cond t per (cond d (cond hex hexadecimal written) other)) ep
    ∙ ap (λ t. cond t (cond hex hexadecimal written) other) ed
    ∙ ap (λ t. cond t hexadecimal written) eh

value_step : (v w n m : ℕ) → v ≡ w → n ≡ m → w < 2 ^ 40 → number_of v 0 n ≡ Emit (Number w) m
value_step v w n m e k small =
    ap (λ x. number_of x 0 n) e
    ∙ ap (λ t. cond t (Emit (Number w) (0 + n)) (Refuse NumberTooLarge)) (lt-ltb w (2 ^ 40) small)
    ∙ ap (Emit (Number w)) (let z : 0 + n ≡ m = omega arith in z)

digits_front : (ds rest : List ℕ) → 0 < length ds → AllDigits 10 ds → Stops rest → digits_value 10 ds < 2 ^ 40 → front (ds ++ rest) ≡ Emit (Number (digits_value 10 ds)) (length ds)
digits_front [] rest some h s small = absurd (omega arith)
digits_front (d ∷ ds) rest some h s small =
    let f = figure d h.0 in
    let count : prefix_len is_decimal (d ∷ (ds ++ rest)) ≡ length (d ∷ ds) = run is_decimal (d ∷ ds) rest (all_figures (d ∷ ds) h) (stops_number rest s) in
    let taken : take (prefix_len is_decimal (d ∷ (ds ++ rest))) (d ∷ (ds ++ rest)) ≡ d ∷ ds = ap (λ n. take n (d ∷ (ds ++ rest))) count ∙ take-append_seam (d ∷ ds) rest in
    number_step (eqb d 33) (is_blank d) (starts_name d) (eqb d 37) (is_digit d 10) (starts_hexadecimal (d ∷ (ds ++ rest))) _ (number_at 10 0 (d ∷ (ds ++ rest))) _
    f.0 f.1 f.2 f.3 f.4 (decimal_first d ds rest h.1 s) _ _
    ∙ value_step _ (digits_value 10 (d ∷ ds)) _ (length (d ∷ ds)) (ap (digits_value 10) taken) count small

-- a number in decimal
pub number_front : (n : ℕ) (rest : List ℕ) → n < 2 ^ 40 → Stops rest → front (decimal n ++ rest) ≡ Emit (Number n) (length (decimal n))
number_front n rest h s =
    let wide : n < 2 ^ 64 = omega arith in
    let d = decimal_is_IsNumeral n wide in
    let small : digits_value 10 (decimal n) < 2 ^ 40 = rw d.1 h in
    digits_front (decimal n) rest d.0.0 d.0.1 s small ∙ ap (λ v. Emit (Number v) (length (decimal n))) d.1

pub some_digits : (n : ℕ) → n < 2 ^ 64 → 0 < length (decimal n)
some_digits n h = (decimal_is_IsNumeral n h).0.0

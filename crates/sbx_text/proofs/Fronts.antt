-- What stands at the head of some bytes is spelled as its kind says.
use Rattle.std.proofs.Common.{◌≡◌, ℕ, suc, ◌+◌, ◌<◌, ◌≤◌, ◌^◌, Bool, true, false, cond, List, [], ◌∷◌, length, take, drop, refl, ap, ◌∙◌, inl, inr, arith, eqb, ltb, ltb-true, leb}
use Rattle.std.specs.Prelude.{IsTrue, ◌&&◌, ◌||◌}
use Rattle.std.specs.List.{prefix_len, AllPass}
use Rattle.std.specs.Char.{is_digit}
use Rattle.std.specs.Str.Parse.{digits_value}
use Rattle.std.proofs.lemmas.Bool.{eqb-true, false≢true}
use Rattle.std.proofs.lemmas.List.{length-take-le, get_or-take}
use Rattle.std.proofs.lemmas.List.Sums.{prefix_len_passes, prefix_len-le-length}
use Rattle.sbx_text.specs.declared.Kind.TheVariants.{Name}
use Rattle.sbx_text.specs.declared.scanning.Step.{Step}
use Rattle.sbx_text.specs.declared.scanning.Step.TheVariants.{Stop, Skip, Emit, Refuse}
use Rattle.sbx_text.specs.Tokens.{front, is_blank, starts_name, continues_name, is_sign, percent, other, number, number_at, starts_hexadecimal}
use Rattle.sbx_text.specs.Slices.{IsSpelled, AreDigits}

abbrev pub StopsAt : List ℕ → Type 0
StopsAt [] = Unit {0}
StopsAt (b ∷ bytes) = b ≡ 33

abbrev pub SkipsAt : List ℕ → Type 0
SkipsAt [] = ⊥
SkipsAt (b ∷ bytes) = IsTrue (is_blank b)

-- what a step says of the bytes that it was read from
abbrev pub Sound : List ℕ → Step → Type 0
Sound bytes Stop = StopsAt bytes
Sound bytes Skip = SkipsAt bytes
Sound bytes (Emit kind n) = IsSpelled kind (take n bytes) × (0 < n) × (n ≤ length bytes)
Sound bytes (Refuse f) = Unit {0}

passes : (p : ℕ → Bool) (xs : List ℕ) → AllPass p (take (prefix_len p xs) xs)
passes p xs k d h =
    let fits : prefix_len p xs ≤ length xs = prefix_len-le-length p xs in
    let len : length (take (prefix_len p xs) xs) ≡ prefix_len p xs = length-take-le (prefix_len p xs) xs fits in
    let within : k < prefix_len p xs = omega arith in
    ap p (get_or-take (prefix_len p xs) xs k d within) ∙ prefix_len_passes p xs k d within

pick : (P : Step → Type 0) (t : Bool) (x y : Step) → (t ≡ true → P x) → (t ≡ false → P y) → P (cond t x y)
pick P true x y f g = f refl
pick P false x y f g = g refl

both : (s t : Bool) → (s && t) ≡ true → (s ≡ true) × (t ≡ true)
both true t h = (refl, h)
both false t h = absurd (false≢true h)

guarded : (s t : Bool) → cond s t false ≡ true → t ≡ true
guarded true t h = h
guarded false t h = absurd (false≢true h)

name_sound : (b : ℕ) (bytes : List ℕ) → starts_name b ≡ true → Sound (b ∷ bytes) (Emit Name (1 + prefix_len continues_name bytes))
name_sound b bytes h =
    let k : 1 + prefix_len continues_name bytes ≡ suc (prefix_len continues_name bytes) = omega arith in
    let fits : prefix_len continues_name bytes ≤ length bytes = prefix_len-le-length continues_name bytes in
    rw k ((h, passes continues_name bytes), omega arith, omega arith)

in_name : (s t : Bool) (n : ℕ) → s ≡ true → 1 + cond (s || t) (1 + n) 0 ≡ suc (suc n)
in_name true t n h = omega arith
in_name false t n h = absurd (false≢true h)

percent_sound : (b : ℕ) (bytes : List ℕ) → b ≡ 37 → Sound (b ∷ bytes) (percent bytes)
percent_sound b [] e = tt
percent_sound b (c ∷ bytes) e =
    pick (Sound (b ∷ c ∷ bytes)) (starts_name c) _ _
    (λ h.
    let k : 1 + prefix_len continues_name (c ∷ bytes) ≡ suc (suc (prefix_len continues_name bytes)) = in_name (starts_name c) (leb 48 c && leb c 57) (prefix_len continues_name bytes) h in
    let fits : prefix_len continues_name bytes ≤ length bytes = prefix_len-le-length continues_name bytes in
    let name : List ℕ = c ∷ take (prefix_len continues_name bytes) bytes in
    rw k ((name, ap (λ (x : ℕ). x ∷ name) e, (h, passes continues_name bytes)), omega arith, omega arith))
    (λ h. tt)

-- the digits in a row at the head, of which there are some
digits_sound : (radix : ℕ) (bytes : List ℕ) → 0 < prefix_len (λ b. is_digit b radix) bytes
    → AreDigits radix (digits_value radix (take (prefix_len (λ b. is_digit b radix) bytes) bytes)) (take (prefix_len (λ b. is_digit b radix) bytes) bytes)
digits_sound radix bytes some =
    let fits : prefix_len (λ b. is_digit b radix) bytes ≤ length bytes = prefix_len-le-length (λ b. is_digit b radix) bytes in
    let len : length (take (prefix_len (λ b. is_digit b radix) bytes) bytes) ≡ prefix_len (λ b. is_digit b radix) bytes = length-take-le (prefix_len (λ b. is_digit b radix) bytes) bytes fits in
    (omega arith, passes (λ b. is_digit b radix) bytes, refl)

counts : (s : Bool) (n : ℕ) → s ≡ true → 0 < cond s (1 + n) 0
counts true n h = omega arith
counts false n h = absurd (false≢true h)

decimal_sound : (b : ℕ) (bytes : List ℕ) → is_digit b 10 ≡ true → Sound (b ∷ bytes) (number_at 10 0 (b ∷ bytes))
decimal_sound b bytes h =
    pick (Sound (b ∷ bytes)) (ltb (digits_value 10 (take (prefix_len (λ b. is_digit b 10) (b ∷ bytes)) (b ∷ bytes))) (2 ^ 40)) _ _
    (λ small.
    let some : 0 < prefix_len (λ b. is_digit b 10) (b ∷ bytes) = counts (is_digit b 10) _ h in
    let k : 0 + prefix_len (λ b. is_digit b 10) (b ∷ bytes) ≡ prefix_len (λ b. is_digit b 10) (b ∷ bytes) = omega arith in
    let fits : prefix_len (λ b. is_digit b 10) (b ∷ bytes) ≤ length (b ∷ bytes) = prefix_len-le-length (λ b. is_digit b 10) (b ∷ bytes) in
    rw k ((ltb-true _ _ small, inl (digits_sound 10 (b ∷ bytes) some)), some, fits))
    (λ h. tt)

hexadecimal_sound : (bytes : List ℕ) → starts_hexadecimal bytes ≡ true → Sound bytes (number_at 16 2 (drop 2 bytes))
hexadecimal_sound [] h = absurd (false≢true h)
hexadecimal_sound (a ∷ []) h = absurd (false≢true h)
hexadecimal_sound (a ∷ x ∷ []) h = absurd (false≢true h)
hexadecimal_sound (a ∷ x ∷ c ∷ bytes) h =
    let parts = both (eqb a 48 && eqb x 120) (is_digit c 16) (guarded _ _ h) in
    let prefix = both (eqb a 48) (eqb x 120) parts.0 in
    pick (Sound (a ∷ x ∷ c ∷ bytes)) (ltb (digits_value 16 (take (prefix_len (λ b. is_digit b 16) (c ∷ bytes)) (c ∷ bytes))) (2 ^ 40)) _ _
    (λ small.
    let some : 0 < prefix_len (λ b. is_digit b 16) (c ∷ bytes) = counts (is_digit c 16) _ parts.1 in
    let k : 2 + prefix_len (λ b. is_digit b 16) (c ∷ bytes) ≡ suc (suc (prefix_len (λ b. is_digit b 16) (c ∷ bytes))) = omega arith in
    let fits : prefix_len (λ b. is_digit b 16) (c ∷ bytes) ≤ length (c ∷ bytes) = prefix_len-le-length (λ b. is_digit b 16) (c ∷ bytes) in
    let digits : List ℕ = take (prefix_len (λ b. is_digit b 16) (c ∷ bytes)) (c ∷ bytes) in
    let a48 : a ≡ 48 = eqb-true a 48 prefix.0 in
    let x120 : x ≡ 120 = eqb-true x 120 prefix.1 in
    let spelled : a ∷ x ∷ digits ≡ 48 ∷ 120 ∷ digits = cc in
    rw k ((ltb-true _ _ small, inr (digits, spelled, digits_sound 16 (c ∷ bytes) some)), omega arith, omega arith))
    (λ h. tt)

number_sound : (b : ℕ) (bytes : List ℕ) → is_digit b 10 ≡ true → Sound (b ∷ bytes) (number (b ∷ bytes))
number_sound b bytes h =
    pick (Sound (b ∷ bytes)) (starts_hexadecimal (b ∷ bytes)) _ _ (hexadecimal_sound (b ∷ bytes)) (λ _. decimal_sound b bytes h)

other_sound : (b : ℕ) (bytes : List ℕ) → Sound (b ∷ bytes) (other b)
other_sound b bytes =
    pick (Sound (b ∷ bytes)) (is_sign b) _ _ (λ h. ((b, refl, h), omega arith, omega arith))
    (λ _. pick (Sound (b ∷ bytes)) (ltb b 128) _ _ (λ _. tt) (λ _. tt))

pub front_sound : (bytes : List ℕ) → Sound bytes (front bytes)
front_sound [] = tt
front_sound (b ∷ bytes) =
    pick (Sound (b ∷ bytes)) (eqb b 33) _ _ (λ h. eqb-true b 33 h)
    (λ _. pick (Sound (b ∷ bytes)) (is_blank b) _ _ (λ h. h)
    (λ _. pick (Sound (b ∷ bytes)) (starts_name b) _ _ (name_sound b bytes)
    (λ _. pick (Sound (b ∷ bytes)) (eqb b 37) _ _ (λ h. percent_sound b bytes (eqb-true b 37 h))
    (λ _. pick (Sound (b ∷ bytes)) (is_digit b 10) _ _ (number_sound b bytes) (λ _. other_sound b bytes)))))

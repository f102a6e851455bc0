-- The first line of a file and the first word of a text, by how many bytes stand before their ends.
use Rattle.std.proofs.Common.{◌≡◌, ℕ, zero, suc, ◌+◌, ◌-◌, ◌<◌, ◌≤◌, Bool, true, false, cond, List, [], ◌∷◌, length, take, drop, refl, sym, ap, ◌∙◌, subst, arith}
use Rattle.std.specs.Prelude.{◌==◌, ◌&&◌, not, nat_lt, filter, slice_index, MatchBool}
use Rattle.std.specs.Char.{is_ascii_whitespace}
use Rattle.std.specs.List.{onto_first, prefix_len, slice_split}
use Rattle.std.specs.Str.{IsAscii, IsNotAscii, IsTrimAsciiStart}
use Rattle.std.proofs.lemmas.Bool.{false≢true, lt-ltb, le-ltb}
use Rattle.std.proofs.lemmas.List.{take_all, length-drop, length-take-le}
use Rattle.std.proofs.lemmas.Str.Ascii.{trim_ascii_start_is}
use Rattle.inspect_start.specs.Lines.{lines_of, words_of, is_text}

-- ---- ASCII

later : (b : ℕ) (bytes : List ℕ) → IsAscii (b ∷ bytes) → IsAscii bytes
later b bytes all = λ i. all (suc i)

all_ascii : (bytes : List ℕ) → IsAscii bytes → is_text bytes ≡ true
all_ascii [] all = refl
all_ascii (b ∷ bytes) all = rw (lt-ltb b 128 (all 0)) (all_ascii bytes (later b bytes all))

none_ascii : (bytes : List ℕ) (i : ℕ) → 128 ≤ slice_index bytes i → is_text bytes ≡ false
none_ascii [] i high = absurd (omega arith)
none_ascii (b ∷ bytes) zero high = rw (le-ltb b 128 high) refl
none_ascii (b ∷ bytes) (suc i) high = rw (none_ascii bytes i high) (no (nat_lt b 128))
  where
    no : (t : Bool) → (t && false) ≡ false
    no true = refl
    no false = refl

pub ascii_is : (bytes : List ℕ) (t : Bool) → MatchBool t (IsAscii bytes) (IsNotAscii bytes) → t ≡ is_text bytes
ascii_is bytes true all = sym (all_ascii bytes all)
ascii_is bytes false some = sym (none_ascii bytes some.0 some.1)

-- ---- lines

-- how many bytes stand before the first LF
abbrev to_end : List ℕ → ℕ
to_end bytes = prefix_len (λ b. not (b == 10)) bytes

take_on : {A : Type 0} (n k : ℕ) (b : A) (bytes : List A) → n ≡ suc k → take n (b ∷ bytes) ≡ b ∷ take k bytes
take_on n k b bytes e = ap (λ (m : ℕ). take m (b ∷ bytes)) e

drop_on : {A : Type 0} (n k : ℕ) (b : A) (bytes : List A) → n ≡ suc k → drop n (b ∷ bytes) ≡ drop k bytes
drop_on n k b bytes e = ap (λ (m : ℕ). drop m (b ∷ bytes)) e

step : (b : ℕ) (bytes : List ℕ) (t : Bool) → lines_of bytes ≡ take (to_end bytes) bytes ∷ lines_of (drop (to_end bytes + 1) bytes)
    → cond t ([] ∷ lines_of bytes) (onto_first b (lines_of bytes))
    ≡ take (cond (not t) (1 + to_end bytes) 0) (b ∷ bytes) ∷ lines_of (drop (cond (not t) (1 + to_end bytes) 0 + 1) (b ∷ bytes))
step b bytes true e = refl
step b bytes false e =
    let n : ℕ = 1 + to_end bytes in
    ap (onto_first b) e
    ∙ ap (λ (line : List ℕ). line ∷ lines_of (drop (to_end bytes + 1) bytes)) (sym (take_on n (to_end bytes) b bytes (omega arith)))
    ∙ ap (λ (rest : List ℕ). take n (b ∷ bytes) ∷ lines_of rest) (sym (drop_on (n + 1) (to_end bytes + 1) b bytes (omega arith)))

alone : (b : ℕ) (t : Bool) → cond t ([] ∷ []) (onto_first b []) ≡ take (cond (not t) 1 0) (b ∷ []) ∷ lines_of (drop (cond (not t) 1 0 + 1) (b ∷ []))
alone b true = refl
alone b false = refl

line_is : (b : ℕ) (bytes : List ℕ) → lines_of (b ∷ bytes) ≡ take (to_end (b ∷ bytes)) (b ∷ bytes) ∷ lines_of (drop (to_end (b ∷ bytes) + 1) (b ∷ bytes))
line_is b [] = alone b (b == 10)
line_is b (c ∷ bytes) = step b (c ∷ bytes) (b == 10) (line_is c bytes)

pub first_line_is : (file : List ℕ) → 0 < length file → lines_of file ≡ take (to_end file) file ∷ lines_of (drop (to_end file + 1) file)
first_line_is [] some = absurd (omega arith)
first_line_is (b ∷ bytes) some = line_is b bytes

pub with_rest : (file : List ℕ) (n : ℕ) → n ≡ to_end file → n < length file → lines_of file ≡ take n file ∷ lines_of (take (length file - (n + 1)) (drop (n + 1) file))
with_rest file n e lt =
    let whole : (m : ℕ) → take (length file - m) (drop m file) ≡ drop m file = λ m. take_all (length file - m) (drop m file) (omega (arith, length-drop m file)) in
    rw e (first_line_is file (omega arith) ∙ ap (λ (rest : List ℕ). take (to_end file) file ∷ lines_of rest) (sym (whole (to_end file + 1))))

drop_all : (n : ℕ) (bytes : List ℕ) → length bytes ≤ n → drop n bytes ≡ []
drop_all zero [] most = refl
drop_all (suc n) [] most = refl
drop_all zero (b ∷ bytes) most = absurd (omega arith)
drop_all (suc n) (b ∷ bytes) most = drop_all n bytes (omega arith)

pub last_line : (file : List ℕ) (n : ℕ) → n ≡ to_end file → 0 < length file → length file ≤ n → lines_of file ≡ file ∷ []
last_line file n e some most =
    first_line_is file some
    ∙ ap (λ (line : List ℕ). line ∷ lines_of (drop (to_end file + 1) file)) (take_all (to_end file) file (omega arith))
    ∙ ap (λ (rest : List ℕ). file ∷ lines_of rest) (drop_all (to_end file + 1) file (omega arith))

-- ---- words

abbrev parts : List ℕ → List (List ℕ)
parts text = slice_split is_ascii_whitespace text

abbrev some_of : List (List ℕ) → List (List ℕ)
some_of words = filter (λ word. nat_lt 0 (length word)) words

-- how many blanks stand first, and how many bytes before the first blank
abbrev blanks : List ℕ → ℕ
blanks text = prefix_len is_ascii_whitespace text

abbrev to_blank : List ℕ → ℕ
to_blank text = prefix_len (λ b. not (is_ascii_whitespace b)) text

abbrev head_is : List ℕ → Bool → Type 0
head_is text t = is_ascii_whitespace (slice_index text 0) ≡ t

skip : (b : ℕ) (text : List ℕ) (t : Bool) → words_of text ≡ words_of (drop (blanks text) text) → is_ascii_whitespace b ≡ t
    → words_of (b ∷ text) ≡ words_of (drop (cond t (1 + blanks text) 0) (b ∷ text))
skip b text true e is = rw is (e ∙ ap words_of (sym (drop_on (1 + blanks text) (blanks text) b text (omega arith))))
skip b text false e is = refl

-- blanks that stand first are between no words
pub behind_blanks : (text : List ℕ) → words_of text ≡ words_of (drop (blanks text) text)
behind_blanks [] = refl
behind_blanks (b ∷ text) = skip b text (is_ascii_whitespace b) (behind_blanks text) refl

stops_at : (b : ℕ) (text : List ℕ) (t : Bool) → is_ascii_whitespace b ≡ t → (0 < length (drop (blanks text) text) → head_is (drop (blanks text) text) false)
    → 0 < length (drop (cond t (1 + blanks text) 0) (b ∷ text)) → head_is (drop (cond t (1 + blanks text) 0) (b ∷ text)) false
stops_at b text true is h =
    subst (λ (rest : List ℕ). 0 < length rest → head_is rest false) (sym (drop_on (1 + blanks text) (blanks text) b text (omega arith))) h
stops_at b text false is h = λ _. is

-- behind them no blank stands
stops : (text : List ℕ) → 0 < length (drop (blanks text) text) → head_is (drop (blanks text) text) false
stops [] = λ some. absurd (omega arith)
stops (b ∷ text) = stops_at b text (is_ascii_whitespace b) refl (stops text)

abbrev IsFirstPart : List ℕ → Type 0
IsFirstPart text = parts text ≡ take (to_blank text) text ∷ drop 1 (parts text)

longer : (b : ℕ) (text : List ℕ) (t : Bool) → IsFirstPart text → cond t ([] ∷ parts text) (onto_first b (parts text))
    ≡ take (cond (not t) (1 + to_blank text) 0) (b ∷ text) ∷ drop 1 (cond t ([] ∷ parts text) (onto_first b (parts text)))
longer b text true e = refl
longer b text false e =
    let by : onto_first b (parts text) ≡ (b ∷ take (to_blank text) text) ∷ drop 1 (parts text) = ap (onto_first b) e in
    by
    ∙ ap (λ (word : List ℕ). word ∷ drop 1 (parts text)) (sym (take_on (1 + to_blank text) (to_blank text) b text (omega arith)))
    ∙ ap (λ (words : List (List ℕ)). take (1 + to_blank text) (b ∷ text) ∷ words) (sym (ap (drop 1) by))

-- the first part ends before the first blank
first_part : (text : List ℕ) → IsFirstPart text
first_part [] = refl
first_part (b ∷ text) = longer b text (is_ascii_whitespace b) (first_part text)

behind : (b : ℕ) (text : List ℕ) (t : Bool) → is_ascii_whitespace b ≡ t → some_of (drop 1 (parts text)) ≡ words_of (drop (to_blank text) text)
    → some_of (drop 1 (cond t ([] ∷ parts text) (onto_first b (parts text)))) ≡ words_of (drop (cond (not t) (1 + to_blank text) 0) (b ∷ text))
behind b text true is e = rw is refl
behind b text false is e =
    ap (λ (words : List (List ℕ)). some_of (drop 1 words)) (ap (onto_first b) (first_part text))
    ∙ e
    ∙ ap words_of (sym (drop_on (1 + to_blank text) (to_blank text) b text (omega arith)))

other_parts : (text : List ℕ) → some_of (drop 1 (parts text)) ≡ words_of (drop (to_blank text) text)
other_parts [] = refl
other_parts (b ∷ text) = behind b text (is_ascii_whitespace b) refl (other_parts text)

begins : (text : List ℕ) → 0 < length text → head_is text false → 0 < to_blank text
begins [] some h = absurd (omega arith)
begins (b ∷ text) some h = rw h (omega arith)

fits : (n m : ℕ) (t : Bool) → n ≤ m → cond (not t) (1 + n) 0 ≤ suc m
fits n m true le = omega arith
fits n m false le = omega arith

within : (text : List ℕ) → to_blank text ≤ length text
within [] = omega arith
within (b ∷ text) = fits (to_blank text) (length text) (is_ascii_whitespace b) (within text)

word_is : (text : List ℕ) → 0 < length text → head_is text false → words_of text ≡ take (to_blank text) text ∷ words_of (drop (to_blank text) text)
word_is text some h =
    ap some_of (first_part text)
    ∙ ap (λ t. cond t (take (to_blank text) text ∷ some_of (drop 1 (parts text))) (some_of (drop 1 (parts text))))
    (lt-ltb 0 (length (take (to_blank text) text)) (omega (arith, begins text some h, within text, length-take-le (to_blank text) text (within text))))
    ∙ ap (λ (words : List (List ℕ)). take (to_blank text) text ∷ words) (other_parts text)

pub some_bytes : (bytes : List ℕ) → (length bytes == 0) ≡ false → 0 < length bytes
some_bytes [] h = absurd (false≢true (sym h))
some_bytes (b ∷ bytes) h = omega arith

module _ (text rest : List ℕ) (trimmed : IsTrimAsciiStart text rest) where
  is : rest ≡ drop (blanks text) text
  is = trim_ascii_start_is text rest trimmed

  pub no_word : length rest ≡ 0 → words_of text ≡ []
  no_word none = behind_blanks text ∙ ap words_of (sym is) ∙ ap words_of (nil rest none)
    where
      nil : (bytes : List ℕ) → length bytes ≡ 0 → bytes ≡ []
      nil [] e = refl
      nil (b ∷ bytes) e = absurd (omega arith)

  head : 0 < length rest → head_is rest false
  head some = subst (λ (bytes : List ℕ). head_is bytes false) (sym is) (stops text (subst (λ (bytes : List ℕ). 0 < length bytes) is some))

  pub first_word_is : (n : ℕ) → n ≡ to_blank rest → 0 < length rest → words_of text ≡ take n rest ∷ words_of (drop n rest)
  first_word_is n e some = rw e (behind_blanks text ∙ ap words_of (sym is) ∙ word_is rest some (head some))

  pub word_takes : (n : ℕ) → n ≡ to_blank rest → 0 < length rest → length (drop n rest) < length text
  word_takes n e some =
      omega (arith, e, begins rest some (head some), length-drop n rest, ap length is, length-drop (blanks text) text)

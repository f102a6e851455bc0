-- A bare `.word` is no statement.
use Rattle.std.proofs.Common.{◌≡◌, ℕ, suc, ◌+◌, ◌/◌, ◌%◌, ◌^◌, ◌<◌, Bool, true, false, cond, List, [], ◌∷◌, ◌++◌, length, take, refl, sym, ap, subst, ◌∙◌, arith, ltb, Option, None, Err}
use Rattle.std.specs.Prelude.{codes}
use Rattle.std.specs.List.{prefix_len}
use Rattle.std.specs.Char.{is_digit, digit_value}
use Rattle.std.specs.Fmt.{digit_glyph}
use Rattle.std.specs.Str.Parse.{digits_value, AllDigits}
use Rattle.std.proofs.lemmas.Bool.{lt-ltb, ltb-true}
use Rattle.std.proofs.lemmas.Int.Digits.{digits_value-lt}
use Rattle.std.proofs.lemmas.List.{append-nil}
use Rattle.std.proofs.Math.Seq.{take-length}
use Rattle.sbx_text.specs.declared.Kind.TheVariants as kinds
use Rattle.sbx_text.specs.declared.fault.TextFault.TheVariants.{NumberTooLarge}
use Rattle.sbx_text.specs.declared.scanning.Step.TheVariants.{Emit, Refuse}
use Rattle.sbx_text.specs.Tokens.{front, number_at, number_of}
use Rattle.v8_formats.specs.Spelling.{spelling}
use Rattle.v8_formats.specs.Table.{meaning}
use Rattle.v8_syntax.specs.declared.word.StatementToken.TheVariants as words
use Rattle.v8_syntax.specs.declared.word.StatementToken.{StatementToken}
use Rattle.v8_syntax.specs.declared.fault.SyntaxFault.TheVariants.{UnknownMnemonic}
use Rattle.v8_forms.specs.Forms.{Form, natives, synthetics}
use Rattle.v8_forms.specs.Text.{hexadecimal, native_of, shown, text_of}
use Rattle.v8_syntax.specs.Statements.{statement_token, statement_tokens, named_meaning}
use Rattle.v8_rereading.specs.Laws.{IsNotRead, RefusesEachBareWord}
use Rattle.v8_rereading.proofs.Bytes.{Below, at_below, all, run, name_front}
use Rattle.v8_rereading.proofs.Hearing.{Heard, ended, spaced, closed, tokened, token_scanned, between}

-- ---- hexadecimal digits

abbrev is_hexadecimal : ℕ → Bool
is_hexadecimal b = is_digit b 16

glyphs : Below (λ d. is_hexadecimal (digit_glyph true d) ≡ true) 16
glyphs = ((((((((((((((((tt, refl), refl), refl), refl), refl), refl), refl), refl), refl), refl), refl), refl), refl), refl), refl), refl)

glyph_in : (n : ℕ) → digit_value (digit_glyph true (n % 16)) < 16
glyph_in n = ltb-true (digit_value (digit_glyph true (n % 16))) 16 (at_below (λ d. is_hexadecimal (digit_glyph true d) ≡ true) 16 (n % 16) glyphs (omega arith))

all_digits : (w : ℕ) → AllDigits 16 (hexadecimal w)
all_digits w = (
  glyph_in (w / 0x10000000),
  (
    glyph_in (w / 0x1000000),
    (glyph_in (w / 0x100000), (glyph_in (w / 0x10000), (glyph_in (w / 0x1000), (glyph_in (w / 0x100), (glyph_in (w / 0x10), (glyph_in w, tt)))))),
  ),
)

all_hexadecimal : (ds : List ℕ) → AllDigits 16 ds → all is_hexadecimal ds ≡ true
all_hexadecimal [] h = refl
all_hexadecimal (d ∷ ds) h = ap (λ t. cond t (all is_hexadecimal ds) false) (lt-ltb (digit_value d) 16 h.0) ∙ all_hexadecimal ds h.1

value_of : (v w n m : ℕ) → v ≡ w → n ≡ m → w < 2 ^ 40 → number_of v 2 n ≡ Emit (kinds.Number w) (suc (suc m))
value_of v w n m e k small =
    ap (λ x. number_of x 2 n) e
    ∙ ap (λ t. cond t (Emit (kinds.Number w) (2 + n)) (Refuse NumberTooLarge)) (lt-ltb w (2 ^ 40) small)
    ∙ ap (Emit (kinds.Number w)) (let z : 2 + n ≡ suc (suc m) = omega arith in z)

hexadecimal_front : (ds : List ℕ) → 0 < length ds → AllDigits 16 ds → digits_value 16 ds < 2 ^ 40 → front (48 ∷ 120 ∷ ds) ≡ Emit (kinds.Number (digits_value 16 ds)) (suc (suc (length ds)))
hexadecimal_front [] some h small = absurd (omega arith)
hexadecimal_front (d ∷ ds) some h small =
    let long : ltb 2 (length (48 ∷ 120 ∷ d ∷ ds)) ≡ true = lt-ltb 2 (length (48 ∷ 120 ∷ d ∷ ds)) (omega arith) in
    let count : prefix_len is_hexadecimal (d ∷ ds) ≡ length (d ∷ ds) = ap (prefix_len is_hexadecimal) (sym (append-nil (d ∷ ds))) ∙ run is_hexadecimal (d ∷ ds) [] (all_hexadecimal (d ∷ ds) h) refl in
    let taken : take (prefix_len is_hexadecimal (d ∷ ds)) (d ∷ ds) ≡ d ∷ ds = ap (λ n. take n (d ∷ ds)) count ∙ take-length (d ∷ ds) in
    ap (λ t. cond (cond t (is_digit d 16) false) (number_at 16 2 (d ∷ ds)) (number_at 10 0 (48 ∷ 120 ∷ d ∷ ds))) long
    ∙ ap (λ t. cond t (number_at 16 2 (d ∷ ds)) (number_at 10 0 (48 ∷ 120 ∷ d ∷ ds))) (lt-ltb (digit_value d) 16 h.0)
    ∙ value_of _ (digits_value 16 (d ∷ ds)) _ (length (d ∷ ds)) (ap (digits_value 16) taken) count small

-- ---- the line

abbrev behind : ℕ → List ℕ
behind w = 32 ∷ 48 ∷ 120 ∷ hexadecimal w

number_heard : (w : ℕ) → Heard 1 (48 ∷ 120 ∷ hexadecimal w) (λ _. words.Number (digits_value 16 (hexadecimal w)) ∷ [])
number_heard w =
    let lt : digits_value 16 (hexadecimal w) < 16 ^ 8 = digits_value-lt 16 (hexadecimal w) (all_digits w) in
    let small : digits_value 16 (hexadecimal w) < 2 ^ 40 = omega arith in
    closed (48 ∷ 120 ∷ hexadecimal w)
    (tokened (kinds.Number (digits_value 16 (hexadecimal w))) (48 ∷ 120 ∷ hexadecimal w) (λ _. words.Number (digits_value 16 (hexadecimal w)))
    (hexadecimal_front (hexadecimal w) (omega arith) (all_digits w) small) (omega arith) (omega arith) (λ _. refl) ended)

unknown : (values : List ℕ → Option ℕ) (here : ℕ) (line : List ℕ) (ws : List StatementToken) → named_meaning values here line (codes ".word") ws ≡ Err UnknownMnemonic
unfolding named_meaning natives synthetics
unknown values here line ws = refl

bare_word : (w : ℕ) → IsNotRead (codes ".word" ++ behind w)
unfolding statement_token
bare_word w =
    let h = spaced (number_heard w) in
    let scanned =
    token_scanned kinds.Name (codes ".word") (behind w) h.marks (name_front (codes ".word") (behind w) refl (refl, refl)) (omega arith) h.scanned
    (length (codes ".word" ++ behind w)) 0 (omega arith) in (
      record { kind = kinds.Name; start = 0; stop = 0 + 5 } ∷ h.marks (0 + 5),
      scanned,
      λ values here.
          let line : List ℕ = codes ".word" ++ behind w in
          ap (λ name. named_meaning values here line name (statement_tokens line (h.marks (0 + 5)))) (between line [] (codes ".word") (behind w) 0 refl refl)
          ∙ unknown values here line (statement_tokens line (h.marks (0 + 5))),
    )

by_native : (o : Option Form) (word : ℕ) → o ≡ None → IsNotRead (shown o word)
by_native o word e = subst (λ x. IsNotRead (shown x word)) (sym e) (bare_word word)

pub bare_words : RefusesEachBareWord
unfolding text_of
bare_words w e = by_native (native_of (spelling (meaning w))) (spelling (meaning w)) e

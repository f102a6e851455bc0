-- Each instruction with a syntax is of a form.
use Rattle.std.proofs.Common.{◌≡◌, ℕ, zero, suc, ◌+◌, ◌*◌, ◌%◌, ◌^◌, ◌<◌, bit_and, Bool, true, false, cond, eqb, List, [], ◌∷◌, refl, sym, ap, subst, ◌∙◌, arith, Some, Option, None}
use Rattle.std.specs.Prelude.{◌≢◌}
use Rattle.std.specs.List.{find}
use Rattle.std.proofs.lemmas.Bool.{false≢true, eq-eqb}
use Rattle.v8_word.specs.Word.{bits_of, sign_extend}
use Rattle.v8_word.specs.Conditions.{cond_number, cond_of}
use Rattle.v8_formats.specs.declared.instr.Operand.TheVariants as operands
use Rattle.v8_formats.specs.declared.instr.AlternateOperand.TheVariants as places
use Rattle.v8_formats.specs.declared.instr.Three.{Three}
use Rattle.v8_formats.specs.declared.instr.Two.{Two}
use Rattle.v8_formats.specs.declared.instr.Alternate.{Alternate}
use Rattle.v8_formats.specs.declared.instr.Instr.{Instr}
use Rattle.v8_formats.specs.declared.instr.Instr.TheVariants as instrs
use Rattle.v8_formats.specs.Fields.{rd, rs1, three, shift, two, alternate, trap, branch, upper}
use Rattle.v8_formats.specs.Spelling.{spelling, spell_alternate, spell_fields, spell_place, spell_three, spell_two, spell_operand}
use Rattle.v8_formats.specs.Table.{Row, lookup, lookup_unused, matches, meaning, table}
use Rattle.v8_formats.proofs.Layouts.{code-cond}
use Rattle.v8_formats.proofs.Rounds.{lookup_spells}
use Rattle.v8_formats.proofs.TableOk.{meaning-spelling, table_ok}
use Rattle.v8_forms.specs.declared.part.Part.{Part}
use Rattle.v8_forms.specs.declared.part.Part.TheVariants as parts
use Rattle.v8_forms.specs.declared.part.Field.TheVariants as fields
use Rattle.v8_forms.specs.declared.part.Range.TheVariants as ranges
use Rattle.v8_forms.specs.Text as text
use Rattle.v8_forms.specs.Forms.{Form, natives, plus}
use Rattle.v8_forms.specs.Text.{number_in, special_of, condition_in, filled, is_word_of, native_of, operand_in, values}
use Rattle.v8_rereading.specs.Laws.{HasSyntax, IsPair}

abbrev nth : List Form → ℕ → Option Form
nth [] n = None
nth (f ∷ fs) zero = Some f
nth (f ∷ fs) (suc n) = nth fs n

same : (a b : Form) → (let s : Option Form = Some a in s) ≡ Some b → a ≡ b
same a b e = cc

is_there : (q : Form → Bool) (fs : List Form) (n : ℕ) (f : Form) → nth fs n ≡ Some f → q f ≡ true → find q fs ≢ None
is_there q [] n f e h = absurd (cc)
is_there q (k ∷ fs) zero f e h = by (q k) (subst (λ x. q x ≡ true) (sym (same k f e)) h)
  where
    by : (t : Bool) → t ≡ true → cond t (Some k) (find q fs) ≢ None
    by true t = λ g. absurd (cc)
    by false t = λ g. false≢true t
is_there q (k ∷ fs) (suc n) f e h = by (q k) (is_there q fs n f e h)
  where
    by : (t : Bool) → find q fs ≢ None → cond t (Some k) (find q fs) ≢ None
    by true go = λ g. absurd (cc)
    by false go = go

-- a word that is spelled by its row has a form, where the instruction has a syntax
abbrev Has : (ℕ → Instr) → Type 0
Has g = (u : ℕ) → u < 2 ^ 32 → spelling (g u) ≡ u → HasSyntax (g u) → native_of u ≢ None

abbrev plain_form : List ℕ → List Part → ℕ → Form
plain_form name ps word = record { name = name; conditional = false; parts = ps; word = word }

by_form : (n : ℕ) (f : Form) (u : ℕ) → nth natives n ≡ Some f → filled f (condition_in f u) (values f.parts u) ≡ u → native_of u ≢ None
unfolding native_of
by_form n f u e h = is_there (λ g. is_word_of g u) natives n f e (eq-eqb _ u h)

abbrev second : Part
second = parts.Second ranges.Signed

three_has : {name : List ℕ} (C : Three → Instr) (n a b : ℕ)
    → nth natives n ≡ Some (plain_form name (parts.Register fields.Rs1 ∷ second ∷ parts.Register fields.Rd ∷ []) (a * 2 ^ 30 + b * 2 ^ 19))
    → ((f : Three) → spelling (C f) ≡ spell_three a b f) → Has (λ w. C (three w))
three_has C n a b at s u small e h =
    let o : ℕ = spell_operand (operand_in ranges.Signed u) in
    let d : ℕ = rd u in
    let r : ℕ = rs1 u in
    let sum : a * 2 ^ 30 + d * 2 ^ 25 + b * 2 ^ 19 + r * 2 ^ 14 + o ≡ u = sym (s (three u)) ∙ e in
    let is : plus (a * 2 ^ 30 + b * 2 ^ 19) (plus (0 * 2 ^ 25) (plus (r * 2 ^ 14) (plus o (plus (d * 2 ^ 25) 0)))) ≡ u = omega arith in
    by_form n _ u at is

load_has : {name : List ℕ} (C : Three → Instr) (n b : ℕ) → nth natives n ≡ Some (plain_form name (parts.Memory ∷ parts.Register fields.Rd ∷ []) (3 * 2 ^ 30 + b * 2 ^ 19))
    → ((f : Three) → spelling (C f) ≡ spell_three 3 b f) → Has (λ w. C (three w))
load_has C n b at s u small e h =
    let o : ℕ = spell_operand (operand_in ranges.Signed u) in
    let d : ℕ = rd u in
    let r : ℕ = rs1 u in
    let sum : 3 * 2 ^ 30 + d * 2 ^ 25 + b * 2 ^ 19 + r * 2 ^ 14 + o ≡ u = sym (s (three u)) ∙ e in
    let is : plus (3 * 2 ^ 30 + b * 2 ^ 19) (plus (0 * 2 ^ 25) (plus (r * 2 ^ 14 + o) (plus (d * 2 ^ 25) 0))) ≡ u = omega arith in
    by_form n _ u at is

operand_small : (u : ℕ) (t : Bool) → spell_operand (cond t (operands.Immediate (number_in ranges.Signed u)) (operands.Register (bits_of u 0 5))) < 2 ^ 14
operand_small u true = omega arith
operand_small u false = omega arith

shift_has : {name : List ℕ} (C : Three → Instr) (n b : ℕ)
    → nth natives n ≡ Some (plain_form name (parts.Register fields.Rs1 ∷ parts.Second ranges.Count ∷ parts.Register fields.Rd ∷ []) (2 * 2 ^ 30 + b * 2 ^ 19))
    → ((f : Three) → spelling (C f) ≡ spell_three 2 b f) → Has (λ w. C (shift w))
shift_has C n b at s u small e h =
    let o : ℕ = spell_operand (operand_in ranges.Count u) in
    let d : ℕ = rd u in
    let r : ℕ = rs1 u in
    let sum : 2 * 2 ^ 30 + d * 2 ^ 25 + b * 2 ^ 19 + r * 2 ^ 14 + o ≡ u = sym (s (shift u)) ∙ e in
    let is : plus (2 * 2 ^ 30 + b * 2 ^ 19) (plus (0 * 2 ^ 25) (plus (r * 2 ^ 14) (plus o (plus (d * 2 ^ 25) 0)))) ≡ u = omega arith in
    by_form n _ u at is

store_has : {name : List ℕ} (C : Three → Instr) (n b : ℕ) → nth natives n ≡ Some (plain_form name (parts.Register fields.Rd ∷ parts.Memory ∷ []) (3 * 2 ^ 30 + b * 2 ^ 19))
    → ((f : Three) → spelling (C f) ≡ spell_three 3 b f) → Has (λ w. C (three w))
store_has C n b at s u small e h =
    let o : ℕ = spell_operand (operand_in ranges.Signed u) in
    let d : ℕ = rd u in
    let r : ℕ = rs1 u in
    let sum : 3 * 2 ^ 30 + d * 2 ^ 25 + b * 2 ^ 19 + r * 2 ^ 14 + o ≡ u = sym (s (three u)) ∙ e in
    let is : plus (3 * 2 ^ 30 + b * 2 ^ 19) (plus (0 * 2 ^ 25) (plus (d * 2 ^ 25) (plus (r * 2 ^ 14 + o) 0))) ≡ u = omega arith in
    by_form n _ u at is

linked_has : Has (λ w. instrs.Jmpl (three w))
unfolding spelling natives
linked_has u small e h =
    let o : ℕ = spell_operand (operand_in ranges.Signed u) in
    let d : ℕ = rd u in
    let r : ℕ = rs1 u in
    let sum : 2 * 2 ^ 30 + d * 2 ^ 25 + 0x38 * 2 ^ 19 + r * 2 ^ 14 + o ≡ u = e in
    let is : plus 0x81C00000 (plus (0 * 2 ^ 25) (plus (r * 2 ^ 14 + o) (plus (d * 2 ^ 25) 0))) ≡ u = omega arith in
    by_form 64 _ u refl is

-- ---- in another space

elsewhere_by : (a : List Part) (name : List ℕ) (n b u d s : ℕ) (t : Bool) → nth natives n ≡ Some (plain_form name a (3 * 2 ^ 30 + b * 2 ^ 19))
    → (spell_fields 3 b d s (spell_place (cond t (places.Immediate (number_in ranges.Signed u)) (places.Register (bits_of u 0 5) (bits_of u 5 8)))) ≡ u)
    → IsPair (cond t (places.Immediate (number_in ranges.Signed u)) (places.Register (bits_of u 0 5) (bits_of u 5 8)))
    → (spell_fields 3 b d s (bits_of u 5 8 * 2 ^ 5 + bits_of u 0 5) ≡ u → values a u ≡ d * 2 ^ 25 + s * 2 ^ 14 + bits_of u 5 8 * 2 ^ 5 + bits_of u 0 5) → u < 2 ^ 32 → native_of u ≢ None
elsewhere_by a name n b u d s true at e h go small = absurd h
elsewhere_by a name n b u d s false at e h go small =
    let x : ℕ = bits_of u 5 8 in
    let y : ℕ = bits_of u 0 5 in
    let v : ℕ = values a u in
    let sum : 3 * 2 ^ 30 + d * 2 ^ 25 + b * 2 ^ 19 + s * 2 ^ 14 + (x * 2 ^ 5 + y) ≡ u = e in
    let all : v ≡ d * 2 ^ 25 + s * 2 ^ 14 + x * 2 ^ 5 + y = go e in
    let is : plus (3 * 2 ^ 30 + b * 2 ^ 19) (plus (0 * 2 ^ 25) v) ≡ u = omega arith in
    by_form n _ u at is

load_elsewhere_has : {name : List ℕ} (C : Alternate → Instr) (n b : ℕ) → nth natives n ≡ Some (plain_form name (parts.Elsewhere ∷ parts.Register fields.Rd ∷ []) (3 * 2 ^ 30 + b * 2 ^ 19))
    → ((f : Alternate) → spelling (C f) ≡ spell_alternate b f) → ((f : Alternate) → HasSyntax (C f) → IsPair f.place) → Has (λ w. C (alternate w))
load_elsewhere_has {name} C n b at s pair u small e h =
    elsewhere_by _ name n b u (rd u) (rs1 u) (eqb (bits_of u 13 1) 1) at (sym (s (alternate u)) ∙ e) (pair (alternate u) h)
    (λ sum. let x : ℕ = bits_of u 5 8 in let y : ℕ = bits_of u 0 5 in let d : ℕ = rd u in let r : ℕ = rs1 u in
    let same : 3 * 2 ^ 30 + d * 2 ^ 25 + b * 2 ^ 19 + r * 2 ^ 14 + (x * 2 ^ 5 + y) ≡ u = sum in
    let is : plus (r * 2 ^ 14 + x * 2 ^ 5 + y) (plus (d * 2 ^ 25) 0) ≡ d * 2 ^ 25 + r * 2 ^ 14 + x * 2 ^ 5 + y = omega arith in is) small

store_elsewhere_has : {name : List ℕ} (C : Alternate → Instr) (n b : ℕ) → nth natives n ≡ Some (plain_form name (parts.Register fields.Rd ∷ parts.Elsewhere ∷ []) (3 * 2 ^ 30 + b * 2 ^ 19))
    → ((f : Alternate) → spelling (C f) ≡ spell_alternate b f) → ((f : Alternate) → HasSyntax (C f) → IsPair f.place) → Has (λ w. C (alternate w))
store_elsewhere_has {name} C n b at s pair u small e h =
    elsewhere_by _ name n b u (rd u) (rs1 u) (eqb (bits_of u 13 1) 1) at (sym (s (alternate u)) ∙ e) (pair (alternate u) h)
    (λ sum. let x : ℕ = bits_of u 5 8 in let y : ℕ = bits_of u 0 5 in let d : ℕ = rd u in let r : ℕ = rs1 u in
    let same : 3 * 2 ^ 30 + d * 2 ^ 25 + b * 2 ^ 19 + r * 2 ^ 14 + (x * 2 ^ 5 + y) ≡ u = sum in
    let is : plus (d * 2 ^ 25) (plus (r * 2 ^ 14 + x * 2 ^ 5 + y) 0) ≡ d * 2 ^ 25 + r * 2 ^ 14 + x * 2 ^ 5 + y = omega arith in is) small

-- ---- state registers

read_has : (C : ℕ → Instr) (k : ℕ) → k < 4 → text.special_number (special_of k) ≡ k → ((r : ℕ) → spelling (C r) ≡ spell_fields 2 (0x28 + k) r 0 0) → Has (λ w. C (rd w))
unfolding natives
read_has C k in_4 code s u small e h =
    let d : ℕ = rd u in
    let sum : 2 * 2 ^ 30 + d * 2 ^ 25 + (0x28 + k) * 2 ^ 19 + 0 * 2 ^ 14 + 0 ≡ u = sym (s (rd u)) ∙ e in
    let within : d < 32 = omega arith in
    let low : bits_of u 19 2 ≡ k = omega arith in
    let coded : text.special_number (special_of (bits_of u 19 2)) ≡ k = ap (λ m. text.special_number (special_of m)) low ∙ code in
    let x : ℕ = text.special_number (special_of (bits_of u 19 2)) in
    let is : plus 0x81400000 (plus (0 * 2 ^ 25) (plus (x * 2 ^ 19) (plus (d * 2 ^ 25) 0))) ≡ u = omega arith in
    by_form 62 _ u refl is

write_has : (C : Two → Instr) (k : ℕ) → k < 4 → text.special_number (special_of k) ≡ k → ((f : Two) → spelling (C f) ≡ spell_two (0x30 + k) f) → Has (λ w. C (two w))
unfolding natives
write_has C k in_4 code s u small e h =
    let r : ℕ = rs1 u in
    let o : ℕ = spell_operand (operand_in ranges.Signed u) in
    let sum : 2 * 2 ^ 30 + 0 * 2 ^ 25 + (0x30 + k) * 2 ^ 19 + r * 2 ^ 14 + o ≡ u = sym (s (two u)) ∙ e in
    let within : r < 32 = omega arith in
    let bound : o < 2 ^ 14 = operand_small u (eqb (bits_of u 13 1) 1) in
    let low : bits_of u 19 2 ≡ k = omega arith in
    let coded : text.special_number (special_of (bits_of u 19 2)) ≡ k = ap (λ m. text.special_number (special_of m)) low ∙ code in
    let x : ℕ = text.special_number (special_of (bits_of u 19 2)) in
    let is : plus 0x81800000 (plus (0 * 2 ^ 25) (plus (r * 2 ^ 14) (plus o (plus (x * 2 ^ 19) 0)))) ≡ u = omega arith in
    by_form 63 _ u refl is

-- ---- control, numbers, nothing

barrier_has : Has (λ _. instrs.Stbar)
unfolding spelling natives
barrier_has u small e h =
    let sum : 2 * 2 ^ 30 + 0 * 2 ^ 25 + 0x28 * 2 ^ 19 + 15 * 2 ^ 14 + 0 ≡ u = e in
    let is : plus 0x8143C000 (plus (0 * 2 ^ 25) 0) ≡ u = omega arith in
    by_form 70 _ u refl is

alone_has : {name : List ℕ} (C : Two → Instr) (n b : ℕ) → nth natives n ≡ Some (plain_form name (parts.Address ranges.Signed ∷ []) (2 * 2 ^ 30 + b * 2 ^ 19))
    → ((f : Two) → spelling (C f) ≡ spell_two b f) → Has (λ w. C (two w))
alone_has C n b at s u small e h =
    let r : ℕ = rs1 u in
    let o : ℕ = spell_operand (operand_in ranges.Signed u) in
    let sum : 2 * 2 ^ 30 + 0 * 2 ^ 25 + b * 2 ^ 19 + r * 2 ^ 14 + o ≡ u = sym (s (two u)) ∙ e in
    let is : plus (2 * 2 ^ 30 + b * 2 ^ 19) (plus (0 * 2 ^ 25) (plus (r * 2 ^ 14 + o) 0)) ≡ u = omega arith in
    by_form n _ u at is

trap_has : Has (λ w. instrs.Ticc (trap w))
unfolding spelling natives
trap_has u small e h =
    let c : ℕ = bits_of u 25 4 in
    let r : ℕ = rs1 u in
    let o : ℕ = spell_operand (operand_in ranges.Trap u) in
    let coded : ℕ = cond_number (cond_of (bits_of u 25 4)) in
    let back : coded ≡ c = code-cond (bits_of u 25 4) (omega arith) in
    let sum : 2 * 2 ^ 30 + coded * 2 ^ 25 + 0x3a * 2 ^ 19 + r * 2 ^ 14 + o ≡ u = e in
    let is : plus 0x81D00000 (plus (c * 2 ^ 25) (plus (r * 2 ^ 14 + o) 0)) ≡ u = omega arith in
    by_form 73 _ u refl is

call_has : Has (λ w. instrs.Call (sign_extend 30 (bits_of w 0 30)))
unfolding spelling natives
call_has u small e h =
    let d : ℕ = text.far u in
    let sum : 2 ^ 30 + d % 2 ^ 30 ≡ u = e in
    let is : plus 0x40000000 (plus (0 * 2 ^ 25) (plus (d % 2 ^ 30) 0)) ≡ u = omega arith in
    by_form 67 _ u refl is

unimp_has : Has (λ w. instrs.Unimp (bits_of w 0 22))
unfolding spelling natives
unimp_has u small e h =
    let d : ℕ = bits_of u 0 22 in
    let sum : d % 2 ^ 22 ≡ u = e in
    let is : plus 0 (plus (0 * 2 ^ 25) (plus (d % 2 ^ 22) 0)) ≡ u = omega arith in
    by_form 69 _ u refl is

sethi_has : Has (λ w. instrs.Sethi (upper w))
unfolding spelling natives
sethi_has u small e h =
    let d : ℕ = bits_of u 0 22 in
    let r : ℕ = rd u in
    let sum : r * 2 ^ 25 + 4 * 2 ^ 22 + d % 2 ^ 22 ≡ u = e in
    let is : plus 0x01000000 (plus (0 * 2 ^ 25) (plus (d % 2 ^ 22) (plus (r * 2 ^ 25) 0))) ≡ u = omega arith in
    by_form 68 _ u refl is

branch_has : Has (λ w. instrs.Bicc (branch w))
unfolding spelling natives
branch_has u small e h =
    let c : ℕ = bits_of u 25 4 in
    let d : ℕ = text.near u in
    let a : ℕ = text.annul_bit (text.annuls u) in
    let coded : ℕ = cond_number (cond_of (bits_of u 25 4)) in
    let back : coded ≡ c = code-cond (bits_of u 25 4) (omega arith) in
    let sum : a + coded * 2 ^ 25 + 2 * 2 ^ 22 + d % 2 ^ 22 ≡ u = e in
    let is : plus 0x00800000 (plus (c * 2 ^ 25) (plus (a + d % 2 ^ 22) 0)) ≡ u = omega arith in
    by_form 71 _ u refl is

bare_has : (C : ℕ → Instr) → ((w : ℕ) → HasSyntax (C w) → ⊥) → Has C
bare_has C none u small e h = absurd (none u h)

-- ---- the rows of the format table

abbrev AllHave : List Row → Type 0
AllHave [] = Unit {0}
AllHave (r ∷ rs) = Has r.gives × AllHave rs

infixr 5 ◌also◌
◌also◌ : {A B : Type 0} → A → B → A × B
x also y = (x, y)

rows_have : AllHave table
unfolding spelling natives
rows_have =
    three_has instrs.Add 0 2 0x00 refl (λ _. refl) also
    three_has instrs.And 1 2 0x01 refl (λ _. refl) also
    three_has instrs.Or 2 2 0x02 refl (λ _. refl) also
    three_has instrs.Xor 3 2 0x03 refl (λ _. refl) also
    three_has instrs.Sub 4 2 0x04 refl (λ _. refl) also
    three_has instrs.Andn 5 2 0x05 refl (λ _. refl) also
    three_has instrs.Orn 6 2 0x06 refl (λ _. refl) also
    three_has instrs.Xnor 7 2 0x07 refl (λ _. refl) also
    three_has instrs.Addx 8 2 0x08 refl (λ _. refl) also
    three_has instrs.Umul 9 2 0x0a refl (λ _. refl) also
    three_has instrs.Smul 10 2 0x0b refl (λ _. refl) also
    three_has instrs.Subx 11 2 0x0c refl (λ _. refl) also
    three_has instrs.Udiv 12 2 0x0e refl (λ _. refl) also
    three_has instrs.Sdiv 13 2 0x0f refl (λ _. refl) also
    three_has instrs.AddCc 14 2 0x10 refl (λ _. refl) also
    three_has instrs.AndCc 15 2 0x11 refl (λ _. refl) also
    three_has instrs.OrCc 16 2 0x12 refl (λ _. refl) also
    three_has instrs.XorCc 17 2 0x13 refl (λ _. refl) also
    three_has instrs.SubCc 18 2 0x14 refl (λ _. refl) also
    three_has instrs.AndnCc 19 2 0x15 refl (λ _. refl) also
    three_has instrs.OrnCc 20 2 0x16 refl (λ _. refl) also
    three_has instrs.XnorCc 21 2 0x17 refl (λ _. refl) also
    three_has instrs.AddxCc 22 2 0x18 refl (λ _. refl) also
    three_has instrs.UmulCc 23 2 0x1a refl (λ _. refl) also
    three_has instrs.SmulCc 24 2 0x1b refl (λ _. refl) also
    three_has instrs.SubxCc 25 2 0x1c refl (λ _. refl) also
    three_has instrs.UdivCc 26 2 0x1e refl (λ _. refl) also
    three_has instrs.SdivCc 27 2 0x1f refl (λ _. refl) also
    three_has instrs.TaddCc 28 2 0x20 refl (λ _. refl) also
    three_has instrs.TsubCc 29 2 0x21 refl (λ _. refl) also
    three_has instrs.TaddCcTv 30 2 0x22 refl (λ _. refl) also
    three_has instrs.TsubCcTv 31 2 0x23 refl (λ _. refl) also
    three_has instrs.MulsCc 32 2 0x24 refl (λ _. refl) also
    shift_has instrs.Sll 33 0x25 refl (λ _. refl) also
    shift_has instrs.Srl 34 0x26 refl (λ _. refl) also
    shift_has instrs.Sra 35 0x27 refl (λ _. refl) also
    read_has instrs.ReadY 0 (omega arith) refl (λ _. refl) also
    barrier_has also
    read_has instrs.ReadPsr 1 (omega arith) refl (λ _. refl) also
    read_has instrs.ReadWim 2 (omega arith) refl (λ _. refl) also
    read_has instrs.ReadTbr 3 (omega arith) refl (λ _. refl) also
    write_has instrs.WriteY 0 (omega arith) refl (λ _. refl) also
    write_has instrs.WritePsr 1 (omega arith) refl (λ _. refl) also
    write_has instrs.WriteWim 2 (omega arith) refl (λ _. refl) also
    write_has instrs.WriteTbr 3 (omega arith) refl (λ _. refl) also
    alone_has instrs.Rett 65 0x39 refl (λ _. refl) also
    alone_has instrs.Flush 66 0x3b refl (λ _. refl) also
    bare_has instrs.FpOperate (λ _ k. k) also
    bare_has instrs.CpOperate (λ _ k. k) also
    linked_has also
    three_has instrs.Save 36 2 0x3c refl (λ _. refl) also
    three_has instrs.Restore 37 2 0x3d refl (λ _. refl) also
    trap_has also
    load_has instrs.Load 38 0x00 refl (λ _. refl) also
    load_has instrs.LoadUnsignedByte 39 0x01 refl (λ _. refl) also
    load_has instrs.LoadUnsignedHalf 40 0x02 refl (λ _. refl) also
    load_has instrs.LoadDouble 41 0x03 refl (λ _. refl) also
    store_has instrs.Store 46 0x04 refl (λ _. refl) also
    store_has instrs.StoreByte 47 0x05 refl (λ _. refl) also
    store_has instrs.StoreHalf 48 0x06 refl (λ _. refl) also
    store_has instrs.StoreDouble 49 0x07 refl (λ _. refl) also
    load_has instrs.LoadSignedByte 42 0x09 refl (λ _. refl) also
    load_has instrs.LoadSignedHalf 43 0x0a refl (λ _. refl) also
    load_has instrs.LoadStoreUnsignedByte 44 0x0d refl (λ _. refl) also
    load_has instrs.Swap 45 0x0f refl (λ _. refl) also
    load_elsewhere_has instrs.LoadAlternate 50 0x10 refl (λ _. refl) (λ _ k. k) also
    load_elsewhere_has instrs.LoadUnsignedByteAlternate 51 0x11 refl (λ _. refl) (λ _ k. k) also
    load_elsewhere_has instrs.LoadUnsignedHalfAlternate 52 0x12 refl (λ _. refl) (λ _ k. k) also
    load_elsewhere_has instrs.LoadDoubleAlternate 53 0x13 refl (λ _. refl) (λ _ k. k) also
    store_elsewhere_has instrs.StoreAlternate 58 0x14 refl (λ _. refl) (λ _ k. k) also
    store_elsewhere_has instrs.StoreByteAlternate 59 0x15 refl (λ _. refl) (λ _ k. k) also
    store_elsewhere_has instrs.StoreHalfAlternate 60 0x16 refl (λ _. refl) (λ _ k. k) also
    store_elsewhere_has instrs.StoreDoubleAlternate 61 0x17 refl (λ _. refl) (λ _ k. k) also
    load_elsewhere_has instrs.LoadSignedByteAlternate 54 0x19 refl (λ _. refl) (λ _ k. k) also
    load_elsewhere_has instrs.LoadSignedHalfAlternate 55 0x1a refl (λ _. refl) (λ _ k. k) also
    load_elsewhere_has instrs.LoadStoreUnsignedByteAlternate 56 0x1d refl (λ _. refl) (λ _ k. k) also
    load_elsewhere_has instrs.SwapAlternate 57 0x1f refl (λ _. refl) (λ _ k. k) also
    bare_has instrs.FpMemory (λ _ k. k) also
    bare_has instrs.CpMemory (λ _ k. k) also
    call_has also
    unimp_has also
    branch_has also
    sethi_has also
    bare_has instrs.FpBranch (λ _ k. k) also
    bare_has instrs.CpBranch (λ _ k. k) also
    tt

found_by : (t : Bool) (u : ℕ) (x y : Instr) → (spelling x ≡ u → HasSyntax x → native_of u ≢ None) → (spelling y ≡ u → HasSyntax y → native_of u ≢ None)
    → spelling (cond t x y) ≡ u → HasSyntax (cond t x y) → native_of u ≢ None
found_by true u x y f g = f
found_by false u x y f g = g

lookup_has : (rs : List Row) → AllHave rs → (u : ℕ) → u < 2 ^ 32 → spelling (lookup rs u) ≡ u → HasSyntax (lookup rs u) → native_of u ≢ None
lookup_has [] all u small e h = absurd h
lookup_has (r ∷ rs) all u small e h = found_by (matches r u) u (r.gives u) (lookup rs u) (all.0 u small) (lookup_has rs all.1 u small) e h

pub has_form : (w : ℕ) → w < 2 ^ 32 → HasSyntax (meaning w) → native_of (spelling (meaning w)) ≢ None
unfolding meaning
has_form w small h =
    let u : ℕ = spelling (lookup table w) in
    let parts : spelling (lookup table w) + bit_and w (lookup_unused table w) ≡ w = lookup_spells table table_ok w small in
    let within : spelling (lookup table w) < 2 ^ 32 = omega arith in
    let again : lookup table (spelling (lookup table w)) ≡ lookup table w = meaning-spelling w small in
    lookup_has table rows_have (spelling (lookup table w)) within (ap spelling again) (subst HasSyntax (sym again) h)

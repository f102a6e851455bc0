-- The text of each operand is read as what the operand fills in the word.
use Rattle.std.proofs.Common.{◌≡◌, ℕ, ◌+◌, ◌*◌, ◌/◌, ◌%◌, ◌^◌, ◌<◌, ◌≤◌, Bool, true, false, cond, List, [], ◌∷◌, ◌++◌, length, refl, sym, ap, subst, ◌∙◌, arith}
use Rattle.std.proofs.Common.{ltb, leb, Some, Option, None, Ok, Result}
use Rattle.std.specs.Prelude.{codes}
use Rattle.std.specs.Fmt.{decimal}
use Rattle.std.specs.Option.{option_map, option_and_then}
use Rattle.std.proofs.lemmas.Bool.{false≢true, leb-true}
use Rattle.std.proofs.lemmas.List.{append_assoc, append-nil}
use Rattle.v8_word.specs.Word.{bits_of}
use Rattle.v8_formats.specs.declared.instr.Operand.TheVariants as operands
use Rattle.v8_formats.specs.Spelling.{spell_operand}
use Rattle.v8_forms.specs.declared.part.Part.{Part}
use Rattle.v8_forms.specs.declared.part.Part.TheVariants as parts
use Rattle.v8_forms.specs.declared.part.Field.{Field}
use Rattle.v8_forms.specs.declared.part.Field.TheVariants as fields
use Rattle.v8_forms.specs.declared.part.Range.{Range}
use Rattle.v8_forms.specs.declared.part.Range.TheVariants as ranges
use Rattle.v8_syntax.specs.declared.fault.SyntaxFault.{SyntaxFault}
use Rattle.v8_syntax.specs.declared.word.StatementToken.{StatementToken}
use Rattle.v8_syntax.specs.declared.word.StatementToken.TheVariants as words
use Rattle.v8_syntax.specs.declared.word.NameKind.TheVariants as names
use Rattle.v8_forms.specs.Forms.{plus, width}
use Rattle.v8_forms.specs.Text.{annul_bit, annuls, behind_text, elsewhere_bits, far, lead_text, near, number_in, operand_in, operands_text, part_text}
use Rattle.v8_forms.specs.Text.{register_in, special_in, target_text, memory_text, value, values}
use Rattle.v8_syntax.specs.Statements.{bytes_between, ◌>>=◌, added, read_behind, behind, distance, expression, gives, operands_of, offset_of, reached, read, target}
use Rattle.v8_rereading.proofs.Bytes.{Stops}
use Rattle.v8_rereading.proofs.Hearing.{Heard, ended, spaced, regrouped3}
use Rattle.v8_rereading.proofs.Pieces.{operand_words, added_words, offset_words, comma, annulling, numbered, registered, state_register, operand_heard, address_heard, memory_heard, target_heard}
use Rattle.v8_rereading.proofs.Reading.{In, IsSigned, address_read, bytes_away, far_in, in_word, is_part, is_unsigned, near_in, number_inside, operand_inside}
use Rattle.v8_rereading.proofs.Reading.{second_read, target_read, target_value, unsigned_worth}

-- ---- operands whose words are the same at each place

abbrev pub is_plain : Part → Bool
is_plain (parts.Register f) = true
is_plain parts.State = true
is_plain (parts.Second range) = is_part range
is_plain (parts.Address range) = is_part range
is_plain parts.Memory = true
is_plain parts.Elsewhere = true
is_plain (parts.Number range) = is_unsigned range
is_plain parts.Call = false
is_plain parts.Branch = false

unsigned_part : (range : Range) → is_unsigned range ≡ true → is_part range ≡ true
unsigned_part ranges.Signed h = refl
unsigned_part ranges.Count h = refl
unsigned_part ranges.Trap h = refl
unsigned_part ranges.High h = refl
unsigned_part ranges.Space h = refl
unsigned_part ranges.Whole h = absurd (cc)

abbrev pub part_words : Part → ℕ → List StatementToken
part_words (parts.Register f) w = words.Register (register_in f w) ∷ []
part_words parts.State w = words.Special (special_in w) ∷ []
part_words (parts.Second range) w = operand_words (operand_in range w)
part_words (parts.Address range) w = words.Register (bits_of w 14 5) ∷ added_words (operand_in range w)
part_words parts.Memory w = words.Sign 91 ∷ words.Register (bits_of w 14 5) ∷ (added_words (operand_in ranges.Signed w) ++ words.Sign 93 ∷ [])
part_words parts.Elsewhere w =
    words.Sign 91 ∷ words.Register (bits_of w 14 5) ∷ words.Sign 43 ∷ words.Register (bits_of w 0 5) ∷ words.Sign 93 ∷ words.Number (number_in ranges.Space w) ∷ []
part_words (parts.Number range) w = words.Number (number_in range w) ∷ []
part_words _ w = []

at_most : {n : ℕ} {bytes : List ℕ} {said : ℕ → List StatementToken} (m : ℕ) → n ≤ m → Heard n bytes said → Heard m bytes said
at_most m h heard = record { marks = heard.marks; scanned = heard.scanned; said = heard.said; short = (let s = heard.short in omega arith) }

register_small : (f : Field) (w : ℕ) → register_in f w < 32
register_small fields.Rd w = omega arith
register_small fields.Rs1 w = omega arith
register_small fields.Rs2 w = omega arith
register_small fields.Rs1AndRd w = omega arith
register_small fields.Rs2AndRd w = omega arith

module _ {count : ℕ} {bytes : List ℕ} {ws : List StatementToken} (w : ℕ) (s : Stops bytes) (h : Heard count bytes (λ _. ws)) where
  memory_said : Heard (7 + count) (part_text parts.Memory w ++ bytes) (λ _. part_words parts.Memory w ++ ws)
  memory_said =
      subst (λ more. Heard (7 + count) (part_text parts.Memory w ++ bytes) (λ _. words.Sign 91 ∷ words.Register (bits_of w 14 5) ∷ more))
      (sym (append_assoc (added_words (operand_in ranges.Signed w)) (words.Sign 93 ∷ []) ws))
      (at_most (7 + count) (omega arith)
      (memory_heard (In ranges.Signed) (bits_of w 14 5) (operand_in ranges.Signed w) (in_word ranges.Signed) (omega arith) (operand_inside ranges.Signed w refl) h))

  elsewhere_said : Heard (7 + count) (part_text parts.Elsewhere w ++ bytes) (λ _. part_words parts.Elsewhere w ++ ws)
  elsewhere_said =
      at_most (7 + count) (omega arith)
      (regrouped3 (memory_text (bits_of w 14 5) (operands.Register (bits_of w 0 5))) (codes " ") (decimal (number_in ranges.Space w)) bytes
      (memory_heard (In ranges.Signed) (bits_of w 14 5) (operands.Register (bits_of w 0 5)) (in_word ranges.Signed) (omega arith) (omega arith)
      (spaced (numbered h (number_in ranges.Space w) (omega arith) s))))

  part_heard : (p : Part) → is_plain p ≡ true → Heard (7 + count) (part_text p w ++ bytes) (λ _. part_words p w ++ ws)
  part_heard (parts.Register f) k = at_most (7 + count) (omega arith) (registered (register_in f w) (register_small f w) s h)
  part_heard parts.State k = at_most (7 + count) (omega arith) (state_register (special_in w) s h)
  part_heard (parts.Second range) k =
      at_most (7 + count) (omega arith) (operand_heard (In range) (operand_in range w) (in_word range) (operand_inside range w k) s h)
  part_heard (parts.Address range) k =
      at_most (7 + count) (omega arith) (address_heard (In range) (bits_of w 14 5) (operand_in range w) (in_word range) (omega arith) (operand_inside range w k) s h)
  part_heard parts.Memory k = memory_said
  part_heard parts.Elsewhere k = elsewhere_said
  part_heard (parts.Number range) k =
      at_most (7 + count) (omega arith) (numbered h (number_in range w) (in_word range (number_in range w) (number_inside range w (unsigned_part range k))) s)
  part_heard parts.Call k = absurd (cc)
  part_heard parts.Branch k = absurd (cc)

abbrev Read : Type 0
Read = Option (Result ℕ SyntaxFault × List StatementToken)

abbrev closed_by : Read → Read
closed_by a = option_and_then (λ x. read_behind 93 (gives x.0) x.1) a

module _ (values_of : List ℕ → Option ℕ) (here : ℕ) (line : List ℕ) (w : ℕ) (ws : List StatementToken) where
  memory_read : read values_of here line parts.Memory (part_words parts.Memory w ++ ws) ≡ Some (Ok (value parts.Memory w), ws)
  unfolding read
  memory_read =
      let o = operand_in ranges.Signed w in
      let rs1 = bits_of w 14 5 in
      ap (λ more. read values_of here line parts.Memory (words.Sign 91 ∷ words.Register rs1 ∷ more)) (append_assoc (added_words o) (words.Sign 93 ∷ []) ws)
      ∙ ap closed_by (address_read values_of line ranges.Signed rs1 o (words.Sign 93 ∷ ws) (operand_inside ranges.Signed w refl))

  elsewhere_read : read values_of here line parts.Elsewhere (part_words parts.Elsewhere w ++ ws) ≡ Some (Ok (value parts.Elsewhere w), ws)
  unfolding read expression
  elsewhere_read =
      let n = number_in ranges.Space w in
      let whole : n % 2 ^ 8 ≡ n = omega arith in
      ap (λ r. Some (r >>= λ asi. Ok (elsewhere_bits (bits_of w 14 5) (bits_of w 0 5) (asi % 2 ^ 8)), ws)) (unsigned_worth ranges.Space n refl (number_inside ranges.Space w refl))
      ∙ ap (λ asi. Some (Ok (elsewhere_bits (bits_of w 14 5) (bits_of w 0 5) asi), ws)) whole

  part_read : (p : Part) → is_plain p ≡ true → read values_of here line p (part_words p w ++ ws) ≡ Some (Ok (value p w), ws)
  unfolding read expression
  part_read (parts.Register f) k = refl
  part_read parts.State k = refl
  part_read (parts.Second range) k =
      ap (option_map (λ x. (x.0 >>= λ operand2. Ok (spell_operand operand2), x.1))) (second_read values_of line range (operand_in range w) ws (operand_inside range w k))
  part_read (parts.Address range) k = address_read values_of line range (bits_of w 14 5) (operand_in range w) ws (operand_inside range w k)
  part_read parts.Memory k = memory_read
  part_read parts.Elsewhere k = elsewhere_read
  part_read (parts.Number range) k =
      ap (λ r. Some (r >>= λ n. Ok (n % 2 ^ width range), ws)) (unsigned_worth range (number_in range w) k (number_inside range w (unsigned_part range k)))
  part_read parts.Call k = absurd (cc)
  part_read parts.Branch k = absurd (cc)

-- ---- operands behind commas

abbrev pub all_plain : List Part → Bool
all_plain [] = true
all_plain (p ∷ ps) = cond (is_plain p) (all_plain ps) false

first_plain : (t u : Bool) → cond t u false ≡ true → t ≡ true
first_plain true u h = refl
first_plain false u h = h

others_plain : (t u : Bool) → cond t u false ≡ true → u ≡ true
others_plain true u h = h
others_plain false u h = absurd (false≢true h)

abbrev behind_words : List Part → ℕ → List StatementToken
behind_words [] w = []
behind_words (p ∷ ps) w = words.Sign 44 ∷ (part_words p w ++ behind_words ps w)

behind_stops : (ps : List Part) (w : ℕ) → Stops (behind_text ps w)
behind_stops [] w = tt
behind_stops (p ∷ ps) w = (refl, refl)

behind_heard : (ps : List Part) (w : ℕ) → all_plain ps ≡ true → Heard (8 * length ps) (behind_text ps w) (λ _. behind_words ps w)
behind_heard [] w h = ended
behind_heard (p ∷ ps) w h =
    at_most (8 * length (p ∷ ps)) (omega arith)
    (comma (part_heard w (behind_stops ps w) (behind_heard ps w (others_plain (is_plain p) (all_plain ps) h)) p (first_plain (is_plain p) (all_plain ps) h)))

module _ (values_of : List ℕ → Option ℕ) (here : ℕ) (line : List ℕ) where
  abbrev then_behind : List Part → Read → Read
  then_behind ps r = option_and_then (λ x. option_map (λ y. (added x.0 y.0, y.1)) (behind values_of here line ps x.1)) r

  behind_read : (ps : List Part) (w : ℕ) → all_plain ps ≡ true → behind values_of here line ps (behind_words ps w) ≡ Some (Ok (values ps w), [])
  behind_read [] w h = refl
  behind_read (p ∷ ps) w h =
      ap (then_behind ps) (part_read values_of here line w (behind_words ps w) p (first_plain (is_plain p) (all_plain ps) h))
      ∙ ap (option_map (λ y. (added (Ok (value p w)) y.0, y.1))) (behind_read ps w (others_plain (is_plain p) (all_plain ps) h))

-- ---- all operands of a form

-- a number is no sum
abbrev pub shut : List Part → List Part → Bool
shut (parts.Number range ∷ ks) (parts.Address other ∷ ps) = true
shut _ _ = false

-- the text of operands as words of a line, which are read back as the word's values, and by no form that is shut to them
pub record Operands (ps : List Part) (w : ℕ) : Type 0 where
  pub said : ℕ → List StatementToken
  pub heard : Heard 40 (operands_text ps w) said
  pub stops : Stops (operands_text ps w)
  pub reads : (values_of : List ℕ → Option ℕ) (here : ℕ) (line : List ℕ) (at : ℕ) → operands_of values_of here line ps (said at) ≡ Some (Ok (values ps w), [])
  pub refuses : (ks : List Part) → shut ks ps ≡ true → (values_of : List ℕ → Option ℕ) (here : ℕ) (line : List ℕ) (at : ℕ) → operands_of values_of here line ks (said at) ≡ None

shut_words : (ks : List Part) (p : Part) (ps : List Part) (w : ℕ) (ws : List StatementToken) → shut ks (p ∷ ps) ≡ true
    → (values_of : List ℕ → Option ℕ) (here : ℕ) (line : List ℕ) → operands_of values_of here line ks (part_words p w ++ ws) ≡ None
unfolding read expression
shut_words (parts.Number range ∷ ks) (parts.Address other) ps w ws h values_of here line = refl
shut_words _ _ ps w ws h values_of here line = absurd (cc)

plain_operands : (p : Part) (ps : List Part) (w : ℕ) → lead_text p w ≡ codes " " → is_plain p ≡ true → all_plain ps ≡ true → length ps ≤ 3 → Operands (p ∷ ps) w
plain_operands p ps w lead k h few = record {
  said = λ _. part_words p w ++ behind_words ps w;
  heard = subst (λ t. Heard 40 ((t ++ part_text p w) ++ behind_text ps w) (λ _. part_words p w ++ behind_words ps w)) (sym lead)
      (at_most 40 (omega arith) (spaced (part_heard w (behind_stops ps w) (behind_heard ps w h) p k)));
  stops = subst (λ t. Stops ((t ++ part_text p w) ++ behind_text ps w)) (sym lead) (refl, refl);
  reads = λ values_of here line at.
      ap (then_behind values_of here line ps) (part_read values_of here line w (behind_words ps w) p k)
      ∙ ap (option_map (λ y. (added (Ok (value p w)) y.0, y.1))) (behind_read values_of here line ps w h);
  refuses = λ ks s values_of here line at. shut_words ks p ps w (behind_words ps w) s values_of here line;
}

-- ---- targets

away_is_word : (d : ℕ) → bytes_away d < 2 ^ 32
away_is_word d = omega arith

abbrev target_words : ℕ → ℕ → ℕ → List StatementToken
target_words d i j = words.Name names.Place i j ∷ offset_words (ltb (bytes_away d) (2 ^ 31)) (bytes_away d)

heard_target : (d : ℕ) → Heard 3 (target_text d) (λ at. target_words d at (at + 1))
heard_target d = target_heard (bytes_away d) (away_is_word d) ended

module _ (values_of : List ℕ → Option ℕ) (here : ℕ) (line : List ℕ) where
  target_filled : (reach d i j : ℕ) (annul : Bool) → reach ≤ 2 ^ 29 → IsSigned reach d → bytes_away d / 4 % (4 * reach / 2) ≡ d % (4 * reach / 2)
      → target values_of here line (4 * reach) annul (target_words d i j) ≡ Some (Ok (annul_bit annul + d % (4 * reach / 2)), [])
  unfolding target
  target_filled reach d i j annul small h same =
      ap (option_map (λ e. (distance here e.0.base (offset_of e.0) >>= reached (4 * reach) >>= λ n. Ok (annul_bit annul + n % (4 * reach / 2)), e.1)))
      (target_read values_of line i j (ltb (bytes_away d) (2 ^ 31)) (bytes_away d))
      ∙ ap (λ r. Some (r >>= λ n. Ok (annul_bit annul + n % (4 * reach / 2)), [])) (target_value reach here d (values_of (bytes_between line i j)) small h)
      ∙ ap (λ n. Some (Ok (annul_bit annul + n), [])) same

  call_read : (w i j : ℕ) → operands_of values_of here line (parts.Call ∷ []) (target_words (far w) i j) ≡ Some (Ok (values (parts.Call ∷ []) w), [])
  unfolding read
  call_read w i j =
      ap (then_behind values_of here line []) (target_filled (2 ^ 29) (far w) i j false (omega arith) (far_in w) (omega arith))
      ∙ ap (λ n. Some (Ok (plus n 0), [])) (let z : 0 + far w % 2 ^ 30 ≡ far w % 2 ^ 30 = omega arith in z)

target_end : (d : ℕ) → Heard 3 (target_text d ++ []) (λ at. target_words d at (at + 1))
target_end d = subst (λ t. Heard 3 t (λ at. target_words d at (at + 1))) (sym (append-nil (target_text d))) (heard_target d)

no_target : (ks ps : List Part) → (shut ks ps ≡ false) → shut ks ps ≡ true → ⊥
no_target ks ps e h = false≢true (sym e ∙ h)

call_open : (ks : List Part) → shut ks (parts.Call ∷ []) ≡ false
call_open [] = refl
call_open (parts.Number range ∷ ks) = refl
call_open (_ ∷ ks) = refl

branch_open : (ks : List Part) → shut ks (parts.Branch ∷ []) ≡ false
branch_open [] = refl
branch_open (parts.Number range ∷ ks) = refl
branch_open (_ ∷ ks) = refl

nothing_open : (ks : List Part) → shut ks [] ≡ false
nothing_open [] = refl
nothing_open (parts.Number range ∷ ks) = refl
nothing_open (_ ∷ ks) = refl

call_operands : (w : ℕ) → Operands (parts.Call ∷ []) w
call_operands w = record {
  said = λ at. target_words (far w) (at + 1) (at + 1 + 1);
  heard = at_most 40 (omega arith) (spaced (target_end (far w)));
  stops = (refl, refl);
  reads = λ values_of here line at. call_read values_of here line w (at + 1) (at + 1 + 1);
  refuses = λ ks s values_of here line at. absurd (no_target ks (parts.Call ∷ []) (call_open ks) s);
}

abbrev branch_words : ℕ → Bool → ℕ → List StatementToken
branch_words w t at =
    cond t (words.Sign 44 ∷ words.Name names.Annul (at + 1) (at + 1 + 1) ∷ target_words (near w) (at + 1 + 1 + 1) (at + 1 + 1 + 1 + 1)) (target_words (near w) (at + 1) (at + 1 + 1))

branch_heard : (w : ℕ) (t : Bool) → Heard 40 ((cond t (codes ",a ") (codes " ") ++ target_text (near w)) ++ []) (branch_words w t)
branch_heard w true = at_most 40 (omega arith) (comma (annulling (spaced (target_end (near w))) (refl, refl)))
branch_heard w false = at_most 40 (omega arith) (spaced (target_end (near w)))

branch_stops : (w : ℕ) (t : Bool) → Stops ((cond t (codes ",a ") (codes " ") ++ target_text (near w)) ++ [])
branch_stops w true = (refl, refl)
branch_stops w false = (refl, refl)

branch_read : (values_of : List ℕ → Option ℕ) (here : ℕ) (line : List ℕ) (w at : ℕ) (t : Bool)
    → operands_of values_of here line (parts.Branch ∷ []) (branch_words w t at) ≡ Some (Ok (plus (annul_bit t + near w % 2 ^ 22) 0), [])
unfolding read
branch_read values_of here line w at true =
    ap (then_behind values_of here line []) (target_filled values_of here line (2 ^ 21) (near w) (at + 1 + 1 + 1) (at + 1 + 1 + 1 + 1) true (omega arith) (near_in w) (omega arith))
branch_read values_of here line w at false =
    ap (then_behind values_of here line []) (target_filled values_of here line (2 ^ 21) (near w) (at + 1) (at + 1 + 1) false (omega arith) (near_in w) (omega arith))

branch_operands : (w : ℕ) → Operands (parts.Branch ∷ []) w
branch_operands w = record {
  said = branch_words w (annuls w);
  heard = branch_heard w (annuls w);
  stops = branch_stops w (annuls w);
  reads = λ values_of here line at. branch_read values_of here line w at (annuls w);
  refuses = λ ks s values_of here line at. absurd (no_target ks (parts.Branch ∷ []) (branch_open ks) s);
}

no_operands : (w : ℕ) → Operands [] w
no_operands w = record {
  said = λ _. [];
  heard = at_most 40 (omega arith) ended;
  stops = tt;
  reads = λ values_of here line at. refl;
  refuses = λ ks s values_of here line at. absurd (no_target ks [] (nothing_open ks) s);
}

-- ---- what forms of instructions have: nothing, a target, or at most three others

abbrev is_nothing : List Part → Bool
is_nothing [] = true
is_nothing (p ∷ ps) = false

abbrev pub printable : List Part → Bool
printable [] = true
printable (parts.Call ∷ ps) = is_nothing ps
printable (parts.Branch ∷ ps) = is_nothing ps
printable (p ∷ ps) = cond (cond (is_plain p) (all_plain ps) false) (leb (length ps) 3) false

by_plain : (p : Part) (ps : List Part) (w : ℕ) → lead_text p w ≡ codes " " → cond (cond (is_plain p) (all_plain ps) false) (leb (length ps) 3) false ≡ true → Operands (p ∷ ps) w
by_plain p ps w lead h =
    let plain = first_plain (cond (is_plain p) (all_plain ps) false) (leb (length ps) 3) h in
    plain_operands p ps w lead (first_plain (is_plain p) (all_plain ps) plain) (others_plain (is_plain p) (all_plain ps) plain)
    (leb-true (length ps) 3 (others_plain (cond (is_plain p) (all_plain ps) false) (leb (length ps) 3) h))

pub operands_told : (ps : List Part) (w : ℕ) → printable ps ≡ true → Operands ps w
operands_told [] w h = no_operands w
operands_told (parts.Call ∷ []) w h = call_operands w
operands_told (parts.Call ∷ p ∷ ps) w h = absurd (false≢true h)
operands_told (parts.Branch ∷ []) w h = branch_operands w
operands_told (parts.Branch ∷ p ∷ ps) w h = absurd (false≢true h)
operands_told (parts.Register f ∷ ps) w h = by_plain (parts.Register f) ps w refl h
operands_told (parts.State ∷ ps) w h = by_plain parts.State ps w refl h
operands_told (parts.Second range ∷ ps) w h = by_plain (parts.Second range) ps w refl h
operands_told (parts.Address range ∷ ps) w h = by_plain (parts.Address range) ps w refl h
operands_told (parts.Memory ∷ ps) w h = by_plain parts.Memory ps w refl h
operands_told (parts.Elsewhere ∷ ps) w h = by_plain parts.Elsewhere ps w refl h
operands_told (parts.Number range ∷ ps) w h = by_plain (parts.Number range) ps w refl h

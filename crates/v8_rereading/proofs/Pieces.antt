-- The pieces of an instruction's text: its mnemonic, registers, numbers and signs.
use Rattle.std.proofs.Common.{◌≡◌, ℕ, suc, ◌+◌, ◌-◌, ◌^◌, ◌<◌, Bool, true, false, cond, List, [], ◌∷◌, ◌++◌, length, drop, refl, sym, ap, ◌∙◌, arith, ltb, leb}
use Rattle.std.specs.Prelude.{codes}
use Rattle.std.specs.Fmt.{decimal}
use Rattle.std.proofs.lemmas.Bool.{leb-true, ltb-false}
use Rattle.sbx_text.specs.declared.Kind.TheVariants as kinds
use Rattle.sbx_text.specs.declared.scanning.Step.TheVariants.{Emit}
use Rattle.sbx_text.specs.Tokens.{front}
use Rattle.v8_formats.specs.declared.instr.Operand.{Operand}
use Rattle.v8_formats.specs.declared.instr.Operand.TheVariants as operands
use Rattle.v8_forms.specs.declared.part.Special.{Special}
use Rattle.v8_forms.specs.declared.part.Special.TheVariants as specials
use Rattle.v8_syntax.specs.declared.word.StatementToken.{StatementToken}
use Rattle.v8_syntax.specs.declared.word.StatementToken.TheVariants as words
use Rattle.v8_syntax.specs.declared.word.NameKind.TheVariants as names
use Rattle.v8_syntax.specs.Statements.{percent_token}
use Rattle.v8_forms.specs.Text.{register_text, special_text, operand_text, address_text, memory_text}
use Rattle.v8_forms.proofs.Decimal.{ten_digits}
use Rattle.v8_rereading.proofs.Bytes.{Stops, is_name, name_front, percent_front, number_front, some_digits, Below, at_below}
use Rattle.v8_rereading.proofs.Hearing.{Heard, tokened, closed, fewer, regrouped, regrouped3}

-- ---- the rest of a line, whose words are the same at each place

module _ {count : ℕ} {bytes : List ℕ} {said : ℕ → List StatementToken} (h : Heard count bytes said) where
  pub comma : Heard (suc count) (44 ∷ bytes) (λ at. words.Sign 44 ∷ said (at + 1))
  comma = tokened kinds.Sign (44 ∷ []) (λ _. words.Sign 44) refl (omega arith) (omega arith) (λ _. refl) h

  pub plus : Heard (suc count) (43 ∷ bytes) (λ at. words.Sign 43 ∷ said (at + 1))
  plus = tokened kinds.Sign (43 ∷ []) (λ _. words.Sign 43) refl (omega arith) (omega arith) (λ _. refl) h

  pub minus : Heard (suc count) (45 ∷ bytes) (λ at. words.Sign 45 ∷ said (at + 1))
  minus = tokened kinds.Sign (45 ∷ []) (λ _. words.Sign 45) refl (omega arith) (omega arith) (λ _. refl) h

  pub opening : Heard (suc count) (91 ∷ bytes) (λ at. words.Sign 91 ∷ said (at + 1))
  opening = tokened kinds.Sign (91 ∷ []) (λ _. words.Sign 91) refl (omega arith) (omega arith) (λ _. refl) h

  pub closing : Heard (suc count) (93 ∷ bytes) (λ at. words.Sign 93 ∷ said (at + 1))
  closing = tokened kinds.Sign (93 ∷ []) (λ _. words.Sign 93) refl (omega arith) (omega arith) (λ _. refl) h

  -- `a` and `.`
  pub annulling : Stops bytes → Heard (suc count) (97 ∷ bytes) (λ at. words.Name names.Annul at (at + 1) ∷ said (at + 1))
  annulling s = tokened kinds.Name (97 ∷ []) (λ at. words.Name names.Annul at (at + 1)) (name_front (97 ∷ []) bytes refl s) (omega arith) (omega arith) (λ _. refl) h

  pub place : Stops bytes → Heard (suc count) (46 ∷ bytes) (λ at. words.Name names.Place at (at + 1) ∷ said (at + 1))
  place s = tokened kinds.Name (46 ∷ []) (λ at. words.Name names.Place at (at + 1)) (name_front (46 ∷ []) bytes refl s) (omega arith) (omega arith) (λ _. refl) h

  pub numbered : (n : ℕ) → n < 2 ^ 32 → Stops bytes → Heard (suc count) (decimal n ++ bytes) (λ at. words.Number n ∷ said (at + length (decimal n)))
  numbered n small s =
      let ten = ten_digits n small in
      tokened (kinds.Number n) (decimal n) (λ _. words.Number n) (number_front n bytes (omega arith) s) (some_digits n (omega arith)) (omega arith) (λ _. refl) h

-- ---- registers

-- its text is `%` and a name, which is that of the register
abbrev IsNamed : ℕ → Type 0
IsNamed r =
    (register_text r ≡ 37 ∷ drop 1 (register_text r)) × (is_name (drop 1 (register_text r)) ≡ true)
    × (percent_token (drop 1 (register_text r)) ≡ words.Register r) × (leb (length (register_text r)) 16 ≡ true)

thirty_two : Below IsNamed 32
thirty_two = (
  (
    (
      (
        (
          (
            (
              (
                (
                  (
                    (
                      (
                        (
                          (
                            (
                              (
                                (
                                  (
                                    (
                                      (
                                        (
                                          (
                                            (
                                              (
                                                (
                                                  (
                                                    (
                                                      (
                                                        ((((tt, (refl, refl, refl, refl)), (refl, refl, refl, refl)), (refl, refl, refl, refl)), (refl, refl, refl, refl)),
                                                        (refl, refl, refl, refl),
                                                      ),
                                                      (refl, refl, refl, refl),
                                                    ),
                                                    (refl, refl, refl, refl),
                                                  ),
                                                  (refl, refl, refl, refl),
                                                ),
                                                (refl, refl, refl, refl),
                                              ),
                                              (refl, refl, refl, refl),
                                            ),
                                            (refl, refl, refl, refl),
                                          ),
                                          (refl, refl, refl, refl),
                                        ),
                                        (refl, refl, refl, refl),
                                      ),
                                      (refl, refl, refl, refl),
                                    ),
                                    (refl, refl, refl, refl),
                                  ),
                                  (refl, refl, refl, refl),
                                ),
                                (refl, refl, refl, refl),
                              ),
                              (refl, refl, refl, refl),
                            ),
                            (refl, refl, refl, refl),
                          ),
                          (refl, refl, refl, refl),
                        ),
                        (refl, refl, refl, refl),
                      ),
                      (refl, refl, refl, refl),
                    ),
                    (refl, refl, refl, refl),
                  ),
                  (refl, refl, refl, refl),
                ),
                (refl, refl, refl, refl),
              ),
              (refl, refl, refl, refl),
            ),
            (refl, refl, refl, refl),
          ),
          (refl, refl, refl, refl),
        ),
        (refl, refl, refl, refl),
      ),
      (refl, refl, refl, refl),
    ),
    (refl, refl, refl, refl),
  ),
  (refl, refl, refl, refl),
)

pub registered : {count : ℕ} {bytes : List ℕ} {said : ℕ → List StatementToken} (r : ℕ) → r < 32 → Stops bytes → Heard count bytes said
    → Heard (suc count) (register_text r ++ bytes) (λ at. words.Register r ∷ said (at + length (register_text r)))
registered {count} {bytes} {said} r small s h =
    let is = at_below IsNamed 32 r thirty_two small in
    let f : front (register_text r ++ bytes) ≡ Emit kinds.Percent (length (register_text r))
    = ap (λ t. front (t ++ bytes)) is.0 ∙ percent_front (drop 1 (register_text r)) bytes is.1 s ∙ ap (λ t. Emit kinds.Percent (length t)) (sym is.0) in
    let some : 0 < length (register_text r) = (let l : length (register_text r) ≡ suc (length (drop 1 (register_text r))) = ap length is.0 in omega arith) in
    tokened kinds.Percent (register_text r) (λ _. words.Register r) f some (leb-true (length (register_text r)) 16 is.3) (λ _. is.2) h

pub state_register : {count : ℕ} {bytes : List ℕ} {said : ℕ → List StatementToken} (s : Special) → Stops bytes → Heard count bytes said
    → Heard (suc count) (special_text s ++ bytes) (λ at. words.Special s ∷ said (at + length (special_text s)))
state_register {bytes = bytes} specials.Y k h = tokened kinds.Percent (codes "%y") (λ _. words.Special specials.Y) (percent_front (codes "y") bytes refl k) (omega arith) (omega arith) (λ _. refl) h
state_register {bytes = bytes} specials.Psr k h =
    tokened kinds.Percent (codes "%psr") (λ _. words.Special specials.Psr) (percent_front (codes "psr") bytes refl k) (omega arith) (omega arith) (λ _. refl) h
state_register {bytes = bytes} specials.Wim k h =
    tokened kinds.Percent (codes "%wim") (λ _. words.Special specials.Wim) (percent_front (codes "wim") bytes refl k) (omega arith) (omega arith) (λ _. refl) h
state_register {bytes = bytes} specials.Tbr k h =
    tokened kinds.Percent (codes "%tbr") (λ _. words.Special specials.Tbr) (percent_front (codes "tbr") bytes refl k) (omega arith) (omega arith) (λ _. refl) h

-- ---- operands and addresses

-- a register, or an immediate of which this holds
abbrev pub OperandIn : (ℕ → Type 0) → Operand → Type 0
OperandIn P (operands.Register r) = r < 32
OperandIn P (operands.Immediate n) = P n

-- a word below 2 ^ 31 stands as it is, else `-` and what is left to 2 ^ 32
abbrev pub signed_words : Bool → ℕ → List StatementToken
signed_words t n = cond t (words.Number n ∷ []) (words.Sign 45 ∷ words.Number (2 ^ 32 - n) ∷ [])

abbrev pub offset_words : Bool → ℕ → List StatementToken
offset_words t n = cond t (words.Sign 43 ∷ words.Number n ∷ []) (words.Sign 45 ∷ words.Number (2 ^ 32 - n) ∷ [])

abbrev pub operand_words : Operand → List StatementToken
operand_words (operands.Register r) = words.Register r ∷ []
operand_words (operands.Immediate n) = signed_words (ltb n (2 ^ 31)) n

-- behind the register of an address
abbrev pub added_words : Operand → List StatementToken
added_words (operands.Register r) = words.Sign 43 ∷ words.Register r ∷ []
added_words (operands.Immediate n) = offset_words (ltb n (2 ^ 31)) n

large : (n : ℕ) → ltb n (2 ^ 31) ≡ false → 0 < n
large n e = let ge = ltb-false n (2 ^ 31) e in omega arith

signed_heard : {count : ℕ} {bytes : List ℕ} {ws : List StatementToken} (t : Bool) (n : ℕ) → n < 2 ^ 32 → (t ≡ false → 0 < n) → Stops bytes → Heard count bytes (λ _. ws)
    → Heard (suc (suc count)) (cond t (decimal n) (codes "-" ++ decimal (2 ^ 32 - n)) ++ bytes) (λ _. signed_words t n ++ ws)
signed_heard true n small some s h = fewer (numbered h n small s)
signed_heard false n small some s h = let k = some refl in minus (numbered h (2 ^ 32 - n) (omega arith) s)

pub operand_heard : {count : ℕ} {bytes : List ℕ} {ws : List StatementToken} (P : ℕ → Type 0) (o : Operand) → ((n : ℕ) → P n → n < 2 ^ 32) → OperandIn P o → Stops bytes → Heard count bytes (λ _. ws)
    → Heard (suc (suc count)) (operand_text o ++ bytes) (λ _. operand_words o ++ ws)
operand_heard P (operands.Register r) small inside s h = fewer (registered r inside s h)
operand_heard P (operands.Immediate n) small inside s h = signed_heard (ltb n (2 ^ 31)) n (small n inside) (large n) s h

offset_heard : {count : ℕ} {bytes : List ℕ} {ws : List StatementToken} (rs1 : ℕ) (t : Bool) (n : ℕ) → rs1 < 32 → n < 2 ^ 32 → (t ≡ false → 0 < n) → Stops bytes → Heard count bytes (λ _. ws)
    → Heard (suc (suc (suc count))) (register_text rs1 ++ (cond t (codes "+" ++ decimal n) (codes "-" ++ decimal (2 ^ 32 - n)) ++ bytes)) (λ _. words.Register rs1 ∷ (offset_words t n ++ ws))
offset_heard rs1 true n base small some s h = registered rs1 base (refl, refl) (plus (numbered h n small s))
offset_heard rs1 false n base small some s h = let k = some refl in registered rs1 base (refl, refl) (minus (numbered h (2 ^ 32 - n) (omega arith) s))

pub address_heard : {count : ℕ} {bytes : List ℕ} {ws : List StatementToken} (P : ℕ → Type 0) (rs1 : ℕ) (o : Operand) → ((n : ℕ) → P n → n < 2 ^ 32) → rs1 < 32 →
    OperandIn P o → Stops bytes → Heard count bytes (λ _. ws)
    → Heard (suc (suc (suc count))) (address_text rs1 o ++ bytes) (λ _. words.Register rs1 ∷ (added_words o ++ ws))
address_heard {bytes = bytes} P rs1 (operands.Register r) small base inside s h =
    regrouped3 (register_text rs1) (codes "+") (register_text r) bytes (registered rs1 base (refl, refl) (plus (registered r inside s h)))
address_heard {bytes = bytes} P rs1 (operands.Immediate n) small base inside s h =
    regrouped (register_text rs1) (cond (ltb n (2 ^ 31)) (codes "+" ++ decimal n) (codes "-" ++ decimal (2 ^ 32 - n))) bytes
    (offset_heard rs1 (ltb n (2 ^ 31)) n base (small n inside) (large n) s h)

pub memory_heard : {count : ℕ} {bytes : List ℕ} {ws : List StatementToken} (P : ℕ → Type 0) (rs1 : ℕ) (o : Operand) → ((n : ℕ) → P n → n < 2 ^ 32) → rs1 < 32 →
    OperandIn P o → Heard count bytes (λ _. ws)
    → Heard (suc (suc (suc (suc (suc count))))) (memory_text rs1 o ++ bytes) (λ _. words.Sign 91 ∷ words.Register rs1 ∷ (added_words o ++ words.Sign 93 ∷ ws))
memory_heard {bytes = bytes} P rs1 o small base inside h = opening (regrouped (address_text rs1 o) (93 ∷ []) bytes (address_heard P rs1 o small base inside (refl, refl) (closing h)))

-- a target
target_at : (t : Bool) (n : ℕ) → n < 2 ^ 32 → (t ≡ false → 0 < n) → Heard 0 [] (λ _. [])
    → Heard 3 (46 ∷ (cond t (codes "+" ++ decimal n) (codes "-" ++ decimal (2 ^ 32 - n)) ++ [])) (λ at. words.Name names.Place at (at + 1) ∷ offset_words t n)
target_at true n small some h = place (plus (numbered h n small tt)) (refl, refl)
target_at false n small some h = let k = some refl in place (minus (numbered h (2 ^ 32 - n) (omega arith) tt)) (refl, refl)

pub target_heard : (n : ℕ) → n < 2 ^ 32 → Heard 0 [] (λ _. [])
    → Heard 3 (46 ∷ cond (ltb n (2 ^ 31)) (codes "+" ++ decimal n) (codes "-" ++ decimal (2 ^ 32 - n))) (λ at. words.Name names.Place at (at + 1) ∷ offset_words (ltb n (2 ^ 31)) n)
target_heard n small h = closed (46 ∷ cond (ltb n (2 ^ 31)) (codes "+" ++ decimal n) (codes "-" ++ decimal (2 ^ 32 - n))) (target_at (ltb n (2 ^ 31)) n small (large n) h)

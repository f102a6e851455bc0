-- What of the input wasn't asked for doesn't matter to a run.
use Rattle.std.proofs.Common.{◌≡◌, ℕ, zero, suc, ◌+◌, ◌-◌, ◌%◌, ◌≤◌, Bool, true, false, List, [], ◌∷◌, ◌++◌, length, drop, Option, Some, None, refl, sym, ap, ◌∙◌, subst, inl, inr, arith}
use Rattle.std.specs.Prelude.{◌⊎◌, ◌==◌, ◌&&◌, ◌||◌, if◌then◌else◌}
use Rattle.std.proofs.lemmas.List.{drop-drop, length-drop}
use Rattle.v8_alu.specs.declared.AluOut.{AluOut}
use Rattle.v8_alu.specs.Outcomes.{outcome, division_of, tagged_outcome}
use Rattle.v8_meaning.specs.Admitted.{is_admitted}
use Rattle.v8_meaning.specs.Operands.{address}
use Rattle.v8_meaning.specs.Transfers.{bytes_in, received, sent, size_of, writes_memory}
use Rattle.v8_meaning.specs.declared.operation.Loading.TheVariants as loadings
use Rattle.v8_meaning.specs.declared.operation.Operation.{Operation}
use Rattle.v8_meaning.specs.declared.operation.Operation.TheVariants.{Compute, Divide, TaggedTrap, SetHigh, ReadY, WriteY, ReadState, WriteState, Save, Restore}
use Rattle.v8_meaning.specs.declared.operation.Operation.TheVariants.{Call, BranchOnCondition, JumpAndLink, ReturnFromTrap, TrapOnCondition, Nothing, Illegal}
use Rattle.v8_meaning.specs.declared.operation.Operation.TheVariants.{FloatingPoint, Coprocessor}
use Rattle.v8_meaning.specs.declared.operation.Operation.TheVariants as operation
use Rattle.v8_meaning.specs.declared.operation.Transfer.{Transfer}
use Rattle.v8_meaning.specs.declared.operation.Transfer.TheVariants as transfers
use Rattle.v8_word.specs.declared.Size.TheVariants as sizes
use Rattle.sbx_image.specs.Parts.{Parts}
use Rattle.sbx_image.specs.Services.{Services}
use Rattle.sbx_flat.specs.Effects.{address_in, declares, does, found, gets, high_word, is_base, is_stack_pointer, leaves_in_data, leaves_in_slot, operand_value}
use Rattle.sbx_flat.specs.Effects.{restores, served, serves, service_of, slot_of, takes, transfers_data, transfers_in, with_regs, writes, writes_some}
use Rattle.sbx_flat.specs.Memory.{with_number}
use Rattle.sbx_flat.specs.Registers.{Fresh, Registers, popped, pushed, with_slot}
use Rattle.sbx_flat.specs.Runs.{Place, Run, place_of, reached_at, reached_by}
use Rattle.sbx_flat.specs.States.{State, reg, with_reg, advanced, transferred, Turn, Goes, Fails, Over, Wrong, NotAdmitted, Misaligned, ZeroDivisor, TagOverflow, NoService, BadFrame, StackPointer}
use Rattle.sbx_flat.specs.Turns.{Step, asked, fetches, goes_on, turn, word_at}
use Rattle.sbx_flat.specs.Unread.{Unread, asks, asks_at, asks_of, asks_of_service, asks_of_word}

abbrev with_input : List ℕ → State → State
with_input z s = record s { input = z }

abbrev told : List ℕ → Turn → Turn
told z (Goes next) = Goes (with_input z next)
told z (Fails why) = Fails why
told z Over = Over

-- ---- an operation but get looks at no input

decides : (z : List ℕ) (b : Bool) (x y : Turn) → (if b then told z x else told z y) ≡ told z (if b then x else y)
decides z true x y = refl
decides z false x y = refl

module _ (z : List ℕ) where
  -- what a step of the state with this input comes to
  abbrev Blind : Turn → Turn → Type 0
  Blind other t = other ≡ told z t

  either : (b : Bool) (v w x y : Turn) → Blind v x → Blind w y → Blind (if b then v else w) (if b then x else y)
  either true v w x y p q = p
  either false v w x y p q = q

  written : (n v : ℕ) (s : State) → Blind (writes n v (with_input z s)) (writes n v s)
  written n v s = decides z ((n == 14) || (n == 30)) (Fails StackPointer) (Goes (advanced (with_reg n v s)))

  some_written : (rd : ℕ) (why : Wrong) (o : Option AluOut) (s : State) → Blind (writes_some rd why o (with_input z s)) (writes_some rd why o s)
  some_written rd why None s = refl
  some_written rd why (Some out) s = written rd out.value (record s { icc = out.icc; y = out.y })

  same_regs : (words : List (ℕ × ℕ)) (s : State) → with_regs words (with_input z s) ≡ with_input z (with_regs words s)
  same_regs [] s = refl
  same_regs (w ∷ rest) s = ap (with_reg w.0 w.1) (same_regs rest s)

  taken : (words : List (ℕ × ℕ)) (s : State) → Blind (takes words (with_input z s)) (takes words s)
  taken words s = either (is_stack_pointer words) (Fails StackPointer) (Goes (advanced (with_regs words (with_input z s)))) (Fails StackPointer) (Goes (advanced (with_regs words s)))
      refl (ap (λ (x : State). Goes (advanced x)) (same_regs words s))

  data_left : (t : Transfer) (a n : ℕ) (s : State) → leaves_in_data t a n (with_input z s) ≡ with_input z (leaves_in_data t a n s)
  data_left t a n s = by_test (writes_memory t)
    where
      by_test : (b : Bool) →
          (if b then record (with_input z s) { memory = with_number s.memory a (bytes_in (size_of t)) n } else with_input z s) ≡
          with_input z (if b then record s { memory = with_number s.memory a (bytes_in (size_of t)) n } else s)
      by_test true = refl
      by_test false = refl

  slot_left : (t : Transfer) (a n : ℕ) (s : State) → leaves_in_slot t a n (with_input z s) ≡ with_input z (leaves_in_slot t a n s)
  slot_left t a n s = by_test (writes_memory t)
    where
      by_test : (b : Bool) →
          (if b then record (with_input z s) { registers = with_slot a n s.registers } else with_input z s) ≡
          with_input z (if b then record s { registers = with_slot a n s.registers } else s)
      by_test true = refl
      by_test false = refl

  data_moved : (t : Transfer) (rd a : ℕ) (o : Option ℕ) (s : State) → Blind (transfers_data t rd a o (with_input z s)) (transfers_data t rd a o s)
  unfolding reg
  data_moved t rd a None s = refl
  data_moved t rd a (Some n) s =
      let out = sent (reg s) t rd in
      ap (takes (received t rd n)) (data_left t a out s) ∙ taken (received t rd n) (leaves_in_data t a out s)

  moved : (parts : Parts) (t : Transfer) (rd a : ℕ) (o : Option ℕ) (s : State) → Blind (transfers_in parts t rd a o (with_input z s)) (transfers_in parts t rd a o s)
  unfolding reg
  moved parts t rd a None s = data_moved t rd a (found parts t a s.memory) s
  moved parts t rd a (Some word) s =
      let out = sent (reg s) t rd in
      ap (takes (received t rd word)) (slot_left t a out s) ∙ taken (received t rd word) (leaves_in_slot t a out s)

  same_slot : (t : Transfer) (s : State) (a : ℕ) → slot_of t (with_input z s) a ≡ slot_of t s a
  same_slot (transfers.Load loadings.Word) s a = refl
  same_slot (transfers.Store sizes.Word) s a = refl
  same_slot _ s a = refl

  restored : (rd v : ℕ) (o : Option Registers) (s : State) → Blind (restores rd v o (with_input z s)) (restores rd v o s)
  restored rd v None s = refl
  restored rd v (Some file) s = written rd v (record s { registers = file })

  service : (services : Services) (o : Option ℕ) (s : State) → asks_of_service o ≡ 0 → Blind (serves services o (with_input z s)) (serves services o s)
  unfolding reg
  service services None s none = refl
  service services (Some zero) s none = decides z (declares services 0) (Goes (advanced (served 0 s))) (Fails NoService)
  service services (Some (suc zero)) s none = absurd (omega arith)
  service services (Some (suc (suc n))) s none = decides z (declares services (suc (suc n))) (Goes (advanced (served (suc (suc n)) s))) (Fails NoService)

  blind : (parts : Parts) (fresh : Fresh) (op : Operation) (s : State) → asks_of op ≡ 0 → Blind (does parts fresh op (with_input z s)) (does parts fresh op s)
  unfolding reg
  blind parts fresh (Compute op f) s none = let out = outcome op (reg s f.rs1) (operand_value s f.operand2) s.icc s.y in written f.rd out.value (record s { icc = out.icc; y = out.y })
  blind parts fresh (Divide op f) s none = some_written f.rd ZeroDivisor (division_of op (reg s f.rs1) (operand_value s f.operand2) s.icc s.y) s
  blind parts fresh (TaggedTrap op f) s none = some_written f.rd TagOverflow (tagged_outcome op (reg s f.rs1) (operand_value s f.operand2) s.icc s.y) s
  blind parts fresh (SetHigh f) s none = written f.rd (high_word f) s
  blind parts fresh (ReadY rd) s none = written rd s.y s
  blind parts fresh (WriteY f) s none = refl
  blind parts fresh (operation.Transfer t m) s none =
      let a = address_in s m in
      let o = slot_of t s a in
      either (a % bytes_in (size_of t) == 0) (transfers_in parts t m.rd a (slot_of t (with_input z s) a) (with_input z s)) (Fails Misaligned) (transfers_in parts t m.rd a o s) (Fails Misaligned)
      (ap (λ (x : Option ℕ). transfers_in parts t m.rd a x (with_input z s)) (same_slot t s a) ∙ moved parts t m.rd a o s) refl
  blind parts fresh (Save f) s none =
      let b = address (reg s) f.rs1 f.operand2 in
      decides z ((f.rd == 14) && is_base parts (reg s 14) b) (Goes (advanced (record s { registers = pushed fresh b s.registers }))) (Fails BadFrame)
  blind parts fresh (Restore f) s none = restored f.rd (address (reg s) f.rs1 f.operand2) (popped s.registers) s
  blind parts fresh (Call displacement) s none = refl
  blind parts fresh (BranchOnCondition b) s none = refl
  blind parts fresh (JumpAndLink f) s none =
      let t = address (reg s) f.rs1 f.operand2 in
      decides z (t % 4 == 0) (Goes (transferred t (with_reg f.rd s.pc s))) (Fails Misaligned)
  blind parts fresh (TrapOnCondition t) s none = service parts.services (service_of t) s none
  blind parts fresh (ReadState r rd) s none = refl
  blind parts fresh (WriteState r f) s none = refl
  blind parts fresh (ReturnFromTrap f) s none = refl
  blind parts fresh Nothing s none = refl
  blind parts fresh Illegal s none = refl
  blind parts fresh FloatingPoint s none = refl
  blind parts fresh Coprocessor s none = refl

  blind_word : (parts : Parts) (fresh : Fresh) (o : Option ℕ) (s : State) → asks_of_word o ≡ 0 → Blind (fetches parts fresh o (with_input z s)) (fetches parts fresh o s)
  blind_word parts fresh None s none = refl
  blind_word parts fresh (Some word) s none =
      either (is_admitted (asked word)) (does parts fresh (asked word) (with_input z s)) (Fails NotAdmitted) (does parts fresh (asked word) s)
      (Fails NotAdmitted) (blind parts fresh (asked word) s none) refl

  blind_on : (parts : Parts) (fresh : Fresh) (s : State) (exit : Option ℕ) (annulled : Bool) →
      (if annulled then 0 else asks_of_word (word_at parts.words s.pc)) ≡ 0 →
      Blind (goes_on parts fresh (with_input z s) exit annulled) (goes_on parts fresh s exit annulled)
  blind_on parts fresh s (Some status) annulled none = refl
  blind_on parts fresh s None true none = refl
  blind_on parts fresh s None false none = blind_word parts fresh (word_at parts.words s.pc) s none

  -- a step that asks for no byte
  blind_turn : (parts : Parts) (fresh : Fresh) (s : State) → asks_at parts (place_of parts s) ≡ 0 → Blind (turn parts fresh (with_input z s)) (turn parts fresh s)
  unfolding turn asks_at place_of
  blind_turn parts fresh s none = blind_on parts fresh s s.exit s.annulled none

-- ---- one step

-- The step of the state with other input after the front, and what is left of the front.
record Unmoved (parts : Parts) (s u : State) (front rest other : List ℕ) : Type 0 where
  left : List ℕ
  is_left : left ≡ drop (asks_at parts (place_of parts s)) front
  input : u.input ≡ left ++ rest
  step : Step parts (with_input (front ++ other) s) (with_input (left ++ other) u)

one_next : (t : Turn) (a b : State) → t ≡ Goes a → t ≡ Goes b → a ≡ b
one_next t a b e f = cc

same_input : (a b : State) (z : List ℕ) → Goes a ≡ told z (Goes b) → a ≡ with_input z b
same_input a b z e = cc

step_unasked : (parts : Parts) (s u : State) (front rest other : List ℕ) → s.input ≡ front ++ rest → Step parts s u → asks_at parts (place_of parts s) ≡ 0 → Unmoved parts s u front rest other
step_unasked parts s u front rest other is step none =
    let same : turn parts step.0 (with_input s.input s) ≡ told s.input (turn parts step.0 s) = blind_turn s.input parts step.0 s none in
    let itself : u ≡ with_input s.input u = same_input u u s.input (sym step.2 ∙ same ∙ ap (told s.input) step.2) in
    record {
      left = front;
      is_left = sym (ap (λ n. drop n front) none);
      input = ap (λ (x : State). x.input) itself ∙ is;
      step = (step.0, step.1, blind_turn (front ++ other) parts step.0 s none ∙ ap (told (front ++ other)) step.2);
    }

-- a get takes the first byte of the front
got : (services : Services) (byte : ℕ) (z : List ℕ) (s : State) → s.input ≡ byte ∷ z →
    serves services (Some 1) s ≡ (if declares services 1 then Goes (advanced (with_reg 8 byte (with_input z s))) else Fails NoService)
got services byte z s e = ap (λ (l : List ℕ). if declares services 1 then Goes (advanced (gets l s)) else Fails NoService) e

goes_through : (b : Bool) (a u : State) → (if b then Goes a else Fails NoService) ≡ Goes u → (b ≡ true) × (a ≡ u)
goes_through true a u e = (refl, cc)
goes_through false a u e = absurd (cc)

one_service : (o : Option ℕ) → asks_of_service o ≡ 1 → o ≡ Some 1
one_service None e = absurd (omega arith)
one_service (Some zero) e = absurd (omega arith)
one_service (Some (suc zero)) e = refl
one_service (Some (suc (suc n))) e = absurd (omega arith)

service_asked : (parts : Parts) (fresh : Fresh) (op : Operation) → asks_of op ≡ 1 → (s : State) → does parts fresh op s ≡ serves parts.services (Some 1) s
service_asked parts fresh (TrapOnCondition t) e s = ap (λ o. serves parts.services o s) (one_service (service_of t) e)
service_asked parts fresh _ e s = absurd (omega arith)

admits : (b : Bool) (t : Turn) (u : State) → (if b then t else Fails NotAdmitted) ≡ Goes u → (b ≡ true) × (t ≡ Goes u)
admits true t u e = (refl, e)
admits false t u e = absurd (cc)

record IsGet (parts : Parts) (fresh : Fresh) (s : State) : Type 0 where
  going : s.exit ≡ None
  straight : s.annulled ≡ false
  served_by : (other : State) → other.exit ≡ s.exit → other.annulled ≡ s.annulled → other.pc ≡ s.pc → turn parts fresh other ≡ serves parts.services (Some 1) other

get_word : (parts : Parts) (fresh : Fresh) (s u : State) (o : Option ℕ) → asks_of_word o ≡ 1 → fetches parts fresh o s ≡ Goes u → (other : State) →
    fetches parts fresh o other ≡ serves parts.services (Some 1) other
get_word parts fresh s u None e goes other = absurd (omega arith)
get_word parts fresh s u (Some word) e goes other =
    let can = admits (is_admitted (asked word)) (does parts fresh (asked word) s) u goes in
    ap (λ (b : Bool). if b then does parts fresh (asked word) other else Fails NotAdmitted) can.0 ∙ service_asked parts fresh (asked word) e other

is_get_by : (parts : Parts) (fresh : Fresh) (s u : State) (exit : Option ℕ) (annulled : Bool) → s.exit ≡ exit → s.annulled ≡ annulled →
    (if annulled then 0 else asks_of_word (word_at parts.words s.pc)) ≡ 1 → goes_on parts fresh s exit annulled ≡ Goes u → IsGet parts fresh s
unfolding turn
is_get_by parts fresh s u (Some status) annulled p q e goes = absurd (cc)
is_get_by parts fresh s u None true p q e goes = absurd (omega arith)
is_get_by parts fresh s u None false p q e goes = record {
  going = p;
  straight = q;
  served_by = λ other a b c.
      ap (λ x. goes_on parts fresh other x other.annulled) (a ∙ p)
      ∙ ap (goes_on parts fresh other None) (b ∙ q)
      ∙ ap (λ pc. fetches parts fresh (word_at parts.words pc) other) c
      ∙ get_word parts fresh s u (word_at parts.words s.pc) e goes other;
}

is_get : (parts : Parts) (fresh : Fresh) (s u : State) → asks_at parts (place_of parts s) ≡ 1 → turn parts fresh s ≡ Goes u → IsGet parts fresh s
unfolding turn asks_at place_of
is_get parts fresh s u e goes = is_get_by parts fresh s u s.exit s.annulled refl refl e goes

step_asked : (parts : Parts) (s u : State) (front rest other : List ℕ) → s.input ≡ front ++ rest → Step parts s u → asks_at parts (place_of parts s) ≡ 1 →
    1 ≤ length front → Unmoved parts s u front rest other
step_asked parts s u [] rest other is step one some = absurd (omega arith)
step_asked parts s u (byte ∷ front) rest other is step one some =
    let g = is_get parts step.0 s u one step.2 in
    let here : serves parts.services (Some 1) s ≡ Goes u = sym (g.served_by s refl refl refl) ∙ step.2 in
    let through = goes_through (declares parts.services 1) (advanced (with_reg 8 byte (with_input (front ++ rest) s))) u (sym (got parts.services byte (front ++ rest) s is) ∙ here) in
    let changed = with_input (byte ∷ (front ++ other)) s in
    let there : turn parts step.0 changed ≡ Goes (advanced (with_reg 8 byte (with_input (front ++ other) s))) =
    g.served_by changed refl refl refl ∙ got parts.services byte (front ++ other) changed refl
    ∙ ap (λ (b : Bool). if b then Goes (advanced (with_reg 8 byte (with_input (front ++ other) s))) else Fails NoService) through.0 in
    record {
      left = front;
      is_left = sym (ap (λ n. drop n (byte ∷ front)) one);
      input = ap (λ (x : State). x.input) (sym through.1);
      step = (step.0, step.1, there ∙ ap (λ (x : State). Goes (with_input (front ++ other) x)) through.1);
    }

few_asks_service : (o : Option ℕ) → (asks_of_service o ≡ 0) ⊎ (asks_of_service o ≡ 1)
few_asks_service None = inl refl
few_asks_service (Some zero) = inl refl
few_asks_service (Some (suc zero)) = inr refl
few_asks_service (Some (suc (suc n))) = inl refl

few_asks_of : (op : Operation) → (asks_of op ≡ 0) ⊎ (asks_of op ≡ 1)
few_asks_of (TrapOnCondition t) = few_asks_service (service_of t)
few_asks_of _ = inl refl

few_asks_word : (o : Option ℕ) → (asks_of_word o ≡ 0) ⊎ (asks_of_word o ≡ 1)
few_asks_word None = inl refl
few_asks_word (Some word) = few_asks_of (asked word)

few_asks_by : (annulled : Bool) (n : ℕ) → (n ≡ 0) ⊎ (n ≡ 1) → ((if annulled then 0 else n) ≡ 0) ⊎ ((if annulled then 0 else n) ≡ 1)
few_asks_by true n h = inl refl
few_asks_by false n h = h

few_asks : (parts : Parts) (place : Place) → (asks_at parts place ≡ 0) ⊎ (asks_at parts place ≡ 1)
unfolding asks_at
few_asks parts place = few_asks_by place.annulled (asks_of_word (word_at parts.words place.pc)) (few_asks_word (word_at parts.words place.pc))

one_step : (parts : Parts) (s u : State) (front rest other : List ℕ) → s.input ≡ front ++ rest → Step parts s u → asks_at parts (place_of parts s) ≤ length front → Unmoved parts s u front rest other
one_step parts s u front rest other is step within = elim (few_asks parts (place_of parts s)) [
  | inl none ↦ step_unasked parts s u front rest other is step none
  | inr one ↦ step_asked parts s u front rest other is step one (omega (arith, one))
]

-- ---- a run

same_reached : (z : List ℕ) (op : Operation) (s : State) → reached_by op (with_input z s) ≡ reached_by op s
unfolding reg
same_reached z (operation.Transfer t m) s = refl
same_reached z _ s = refl

same_reached_at : (z : List ℕ) (o : Option ℕ) (s : State) → reached_at o (with_input z s) ≡ reached_at o s
same_reached_at z None s = refl
same_reached_at z (Some word) s = same_reached z (asked word) s

same_place : (z : List ℕ) (parts : Parts) (s : State) → place_of parts (with_input z s) ≡ place_of parts s
unfolding place_of
same_place z parts s = ap (λ (x : Option ℕ). record { pc = s.pc; annulled = s.annulled; address = if s.annulled then None else x }) (same_reached_at z (word_at parts.words s.pc) s)

dropped : (xs : List ℕ) (a b : ℕ) → drop b (drop a xs) ≡ drop (a + b) xs
dropped xs a b = drop-drop b a xs

pub unread : (parts : Parts) (path : List Place) (s t : State) (front rest other : List ℕ) → s.input ≡ front ++ rest → Run parts s path t →
    asks parts path ≤ length front → Unread parts s t path front rest other
unread parts [] s t front rest other is run within = record { input = ap (λ (x : State). x.input) (sym run) ∙ is; run = ap (with_input (front ++ other)) run }
unread parts (p ∷ path) s t front rest other is run within =
    let same : asks_at parts p ≡ asks_at parts (place_of parts s) = ap (asks_at parts) run.1 in
    let one = one_step parts s run.0 front rest other is run.2 (omega (arith, same)) in
    let left_is : one.left ≡ drop (asks_at parts p) front = one.is_left ∙ ap (λ n. drop n front) (sym same) in
    let enough : asks parts path ≤ length one.left = fits_left (asks_at parts p) (asks parts path) front one.left left_is within in
    let more = unread parts path run.0 t one.left rest other one.input run.3 enough in
    let both : drop (asks parts path) one.left ≡ drop (asks_at parts p + asks parts path) front = ap (drop (asks parts path)) left_is ∙ dropped front (asks_at parts p) (asks parts path) in
    record {
      input = more.input ∙ ap (λ (x : List ℕ). x ++ rest) both;
      run = (
        with_input (one.left ++ other) run.0,
        run.1 ∙ sym (same_place (front ++ other) parts s),
        one.step,
        subst (λ (x : List ℕ). Run parts (with_input (one.left ++ other) run.0) path (with_input (x ++ other) t)) both more.run,
      );
    }
  where
    fits_left : (a b : ℕ) (front left : List ℕ) → left ≡ drop a front → a + b ≤ length front → b ≤ length left
    fits_left a b front left e h = let l : length left ≡ length front - a = ap length e ∙ length-drop a front in omega (arith, l)

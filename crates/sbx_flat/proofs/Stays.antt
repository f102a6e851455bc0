-- Each step keeps states well-formed.
use Rattle.std.proofs.Common.{◌≡◌, ◌≢◌, ℕ, zero, suc, ◌+◌, ◌-◌, ◌*◌, ◌/◌, ◌%◌, ◌^◌, ◌<◌, ◌≤◌, Bool, true, false, List, [], ◌∷◌, ◌++◌, length, Option, Some, None, refl, sym, ap, ◌∙◌, subst, arith}
use Rattle.std.specs.Prelude.{IfSome, bit_xor, ◌==◌, ◌&&◌, ◌||◌, nat_le, nat_lt, if◌then◌else◌}
use Rattle.std.specs.List.{AllByRecursion}
use Rattle.std.proofs.lemmas.Bool.Decides.{nat_tests}
use Rattle.std.proofs.lemmas.Nat.{xor_lt}
use Rattle.std.proofs.Math.Nat.{pow-suc}
use Rattle.v8_word.specs.Word.{sign_extend}
use Rattle.v8_word.specs.Conditions.{holds}
use Rattle.v8_word.specs.declared.Icc.{Icc}
use Rattle.v8_word.specs.declared.Size.TheVariants as sizes
use Rattle.v8_formats.specs.declared.instr.Branch.{Branch}
use Rattle.v8_formats.specs.declared.instr.Operand.{Operand}
use Rattle.v8_formats.specs.declared.instr.Operand.TheVariants.{Register, Immediate}
use Rattle.v8_formats.specs.declared.instr.Three.{Three}
use Rattle.v8_alu.specs.declared.AluOut.{AluOut}
use Rattle.v8_alu.specs.Outcomes.{outcome, division_of, tagged_outcome}
use Rattle.v8_meaning.specs.Admitted.{is_admitted, is_immediate_of, is_ret, is_retl}
use Rattle.v8_meaning.specs.Operands.{address, following, target}
use Rattle.v8_meaning.specs.Transfers.{bytes_in, received, sent, size_of, writes_memory}
use Rattle.v8_meaning.specs.declared.operation.Exchange.TheVariants as exchanges
use Rattle.v8_meaning.specs.declared.operation.Loading.{Loading}
use Rattle.v8_meaning.specs.declared.operation.Loading.TheVariants as loadings
use Rattle.v8_meaning.specs.declared.operation.Operation.{Operation}
use Rattle.v8_meaning.specs.declared.operation.Operation.TheVariants.{Compute, Divide, TaggedTrap, SetHigh, ReadY, WriteY, ReadState, WriteState, Save, Restore}
use Rattle.v8_meaning.specs.declared.operation.Operation.TheVariants.{Call, BranchOnCondition, JumpAndLink, ReturnFromTrap, TrapOnCondition, Nothing, Illegal}
use Rattle.v8_meaning.specs.declared.operation.Operation.TheVariants.{FloatingPoint, Coprocessor}
use Rattle.v8_meaning.specs.declared.operation.Operation.TheVariants as operation
use Rattle.v8_meaning.specs.declared.operation.Transfer.{Transfer}
use Rattle.v8_meaning.specs.declared.operation.Transfer.TheVariants as transfers
use Rattle.sbx_image.specs.Parts.{Parts}
use Rattle.sbx_image.specs.Spelling.{IsTypedRegion}
use Rattle.sbx_image.proofs.Within.{data_is_byte}
use Rattle.sbx_image.specs.Services.{Services}
use Rattle.sbx_flat.specs.Effects.{address_in, branched, declares, does, found, gets, high_word, is_base, is_stack_pointer, leaves_in_data, leaves_in_slot}
use Rattle.sbx_flat.specs.Effects.{operand_value, restores, served, serves, service_of, slot_of, takes, transfers_data, transfers_in, with_regs, writes}
use Rattle.sbx_flat.specs.Effects.{writes_some}
use Rattle.sbx_flat.specs.Memory.{Bytes, byte_of, followed_by, number_at, with_number}
use Rattle.sbx_flat.specs.Registers.{Frame, Fresh, IsFresh, Registers, popped, pushed, with_slot, written}
use Rattle.sbx_flat.specs.Calls.{base, cell, depth, slot}
use Rattle.sbx_flat.specs.Runs.{AreBytes, FlatRun, IsStart, Place, Run}
use Rattle.sbx_flat.specs.States.{State, reg, with_reg, advanced, transferred, Turn, Goes, Fails, Over, Wrong, NotAdmitted, Misaligned, ZeroDivisor, TagOverflow, NoService, BadFrame, StackPointer}
use Rattle.sbx_flat.specs.Turns.{Step, asked, fetches, goes_on, turn, word_at}
use Rattle.sbx_flat.specs.WellFormed.{AreCalls, AreData, HasWords, IsPlace, IsStacked, IsWellFormed}
use Rattle.v8_meaning.proofs.Fields.{SmallOperand, SmallSecond, small_second}
use Rattle.sbx_flat.proofs.Kept.{IsBase, base_says, calls_popped, calls_pushed, calls_slot, calls_written, pick, word_small}
use Rattle.v8_alu.proofs.Outcomes.{AreResults, division_words, outcome_words, tagged_words}

-- ---- bytes

pushed_byte : (bytes : List ℕ) (b : ℕ) → AreBytes bytes → b < 2 ^ 8 → AreBytes (bytes ++ b ∷ [])
pushed_byte [] b all small zero = small
pushed_byte [] b all small (suc i) = all i
pushed_byte (x ∷ xs) b all small zero = all 0
pushed_byte (x ∷ xs) b all small (suc i) = pushed_byte xs b (λ j. all (suc j)) small i

-- a number of so many bytes
number_fits : (o p : Option ℕ) (n : ℕ) → IfSome o (λ x. x < n) → IfSome p (λ x. x < 2 ^ 8) → IfSome (followed_by o p) (λ x. x < n * 256)
number_fits None p n a b = tt
number_fits (Some x) None n a b = tt
number_fits (Some x) (Some y) n a b = omega arith

byte_fits : (memory : Bytes) (a : ℕ) (o : Option ℕ) → AreData memory → memory a ≡ o → IfSome o (λ x. x < 2 ^ 8)
byte_fits memory a None all e = tt
byte_fits memory a (Some x) all e = all a x e

number_bound : (memory : Bytes) (a count : ℕ) → AreData memory → IfSome (number_at memory a count) (λ x. x < 256 ^ count)
number_bound memory a zero all = omega arith
number_bound memory a (suc count) all =
    let h = number_fits (number_at memory a count) (memory (a + count)) (256 ^ count) (number_bound memory a count all) (byte_fits memory (a + count) (memory (a + count)) all refl) in
    let e : 256 ^ suc count ≡ 256 ^ count * 256 = pow-suc 256 count in
    subst (λ n. IfSome (number_at memory a (suc count)) (λ x. x < n)) (sym e) h

stored_data : (memory : Bytes) (address count n : ℕ) → AreData memory → AreData (with_number memory address count n)
stored_data memory address count n all a byte e =
    pick (λ (o : Option ℕ). o ≡ Some byte → byte < 2 ^ 8) (nat_le address a && nat_lt a (address + count)) (Some (byte_of count n (a - address))) (memory a)
    (λ h f. small (n / 2 ^ (8 * (count - 1 - (a - address)))) byte f) (λ h f. all a byte f) e
  where
    small : (x byte : ℕ) → Some (x % 2 ^ 8) ≡ Some byte → byte < 2 ^ 8
    small x byte f = let s : x % 2 ^ 8 ≡ byte = cc in omega (arith, s)

-- ---- places

next_place : (p : ℕ) → IsPlace p → IsPlace (following p)
next_place p h = let w = h.whole in record { word = omega arith; whole = omega arith }

target_place : (pc displacement : ℕ) → IsPlace pc → IsPlace (target pc displacement)
target_place pc displacement h = let w = h.whole in record { word = omega arith; whole = omega arith }

module _ (pages : ℕ) where
  abbrev Fine : Turn → Type 0
  Fine (Goes next) = IsWellFormed pages next
  Fine (Fails why) = Unit {0}
  Fine Over = Unit {0}

  -- ---- parts of a state

  word_of : (s : State) (r : ℕ) → IsWellFormed pages s → reg s r < 2 ^ 32
  unfolding reg
  word_of s r h = word_small s.registers r h.calls.words

  on : (s : State) → IsWellFormed pages s → IsWellFormed pages (advanced s)
  on s h = record { pc = h.npc; npc = next_place s.npc h.npc; y = h.y; calls = h.calls; memory = h.memory; input = h.input; output = h.output; exit = h.exit }

  moved : (s : State) (to : ℕ) → IsPlace to → IsWellFormed pages s → IsWellFormed pages (transferred to s)
  moved s to place h = record { pc = h.npc; npc = place; y = h.y; calls = h.calls; memory = h.memory; input = h.input; output = h.output; exit = h.exit }

  with_calls : (s : State) (file : Registers) → AreCalls pages file → IsWellFormed pages s → IsWellFormed pages (record s { registers = file })
  with_calls s file calls h = record { pc = h.pc; npc = h.npc; y = h.y; calls = calls; memory = h.memory; input = h.input; output = h.output; exit = h.exit }

  with_codes : (s : State) (f : Icc) (y : ℕ) → y < 2 ^ 32 → IsWellFormed pages s → IsWellFormed pages (record s { icc = f; y = y })
  with_codes s f y small h = record { pc = h.pc; npc = h.npc; y = small; calls = h.calls; memory = h.memory; input = h.input; output = h.output; exit = h.exit }

  with_memory : (s : State) (memory : Bytes) → AreData memory → IsWellFormed pages s → IsWellFormed pages (record s { memory = memory })
  with_memory s memory bytes h = record { pc = h.pc; npc = h.npc; y = h.y; calls = h.calls; memory = bytes; input = h.input; output = h.output; exit = h.exit }

  with_word_in : (n v : ℕ) (s : State) → n ≢ 14 → n ≢ 30 → v < 2 ^ 32 → IsWellFormed pages s → IsWellFormed pages (with_reg n v s)
  with_word_in n v s pointer caller small h = with_calls s (written n v s.registers) (calls_written pages n v s.registers pointer caller small h.calls) h

  -- ---- results

  apart : (n : ℕ) → ((n == 14) || (n == 30)) ≡ false → (n ≢ 14) × (n ≢ 30)
  apart n e = (λ f. let x : n ≡ 14 = f in grind (arith, nat_tests), λ f. let x : n ≡ 30 = f in grind (arith, nat_tests))

  written_fine : (n v : ℕ) (s : State) → v < 2 ^ 32 → IsWellFormed pages s → Fine (writes n v s)
  written_fine n v s small h = pick Fine ((n == 14) || (n == 30)) (Fails StackPointer) (Goes (advanced (with_reg n v s))) (λ e. tt)
      (λ e. let a = apart n e in on (with_reg n v s) (with_word_in n v s a.0 a.1 small h))

  result_fine : (rd : ℕ) (out : AluOut) (s : State) → AreResults out → IsWellFormed pages s → Fine (writes rd out.value (record s { icc = out.icc; y = out.y }))
  result_fine rd out s small h = written_fine rd out.value (record s { icc = out.icc; y = out.y }) small.0 (with_codes s out.icc out.y small.1 h)

  some_fine : (rd : ℕ) (why : Wrong) (o : Option AluOut) (s : State) → IfSome o AreResults → IsWellFormed pages s → Fine (writes_some rd why o s)
  some_fine rd why None s small h = tt
  some_fine rd why (Some out) s small h = result_fine rd out s small h

  operand_word : (s : State) (o : Operand) → SmallOperand o → IsWellFormed pages s → operand_value s o < 2 ^ 32
  operand_word s (Register r) small h = word_of s r h
  operand_word s (Immediate n) small h = small

  -- ---- loads and stores

  regs_fine : (words : List (ℕ × ℕ)) (s : State) → is_stack_pointer words ≡ false → AllByRecursion (λ (w : ℕ × ℕ). w.1 < 2 ^ 32) words → IsWellFormed pages s → IsWellFormed pages (with_regs words s)
  regs_fine [] s e small h = h
  regs_fine (w ∷ rest) s e small h =
      let split = neither ((w.0 == 14) || (w.0 == 30)) (is_stack_pointer rest) e in
      let a = apart w.0 split.0 in
      with_word_in w.0 w.1 (with_regs rest s) a.0 a.1 small.0 (regs_fine rest s split.1 small.1 h)
    where
      neither : (a b : Bool) → (a || b) ≡ false → (a ≡ false) × (b ≡ false)
      neither true b e = absurd (cc)
      neither false b e = (refl, e)

  takes_fine : (words : List (ℕ × ℕ)) (s : State) → AllByRecursion (λ (w : ℕ × ℕ). w.1 < 2 ^ 32) words → IsWellFormed pages s → Fine (takes words s)
  takes_fine words s small h = pick Fine (is_stack_pointer words) (Fails StackPointer) (Goes (advanced (with_regs words s))) (λ e. tt) (λ e. on (with_regs words s) (regs_fine words s e small h))

  extended_byte : (n : ℕ) → n < 256 → sign_extend 8 n < 2 ^ 32
  extended_byte n small = grind (arith, nat_tests)

  extended_half : (n : ℕ) → n < 65536 → sign_extend 16 n < 2 ^ 32
  extended_half n small = grind (arith, nat_tests)

  loaded_words : (l : Loading) (rd n : ℕ) → n < 256 ^ bytes_in (size_of (transfers.Load l)) → AllByRecursion (λ (w : ℕ × ℕ). w.1 < 2 ^ 32) (received (transfers.Load l) rd n)
  loaded_words loadings.UnsignedByte rd n small = (omega arith, tt)
  loaded_words loadings.SignedByte rd n small = (extended_byte n small, tt)
  loaded_words loadings.UnsignedHalf rd n small = (omega arith, tt)
  loaded_words loadings.SignedHalf rd n small = (extended_half n small, tt)
  loaded_words loadings.Word rd n small = (small, tt)
  loaded_words loadings.Double rd n small = (omega arith, (omega arith, tt))

  received_words : (t : Transfer) (rd n : ℕ) → n < 256 ^ bytes_in (size_of t) → AllByRecursion (λ (w : ℕ × ℕ). w.1 < 2 ^ 32) (received t rd n)
  received_words (transfers.Load l) rd n small = loaded_words l rd n small
  received_words (transfers.Store size) rd n small = tt
  received_words (transfers.Exchange exchanges.Ones) rd n small = (omega arith, tt)
  received_words (transfers.Exchange exchanges.Register) rd n small = (small, tt)

  left_in_data : (t : Transfer) (a n : ℕ) (s : State) → IsWellFormed pages s → IsWellFormed pages (leaves_in_data t a n s)
  left_in_data t a n s h = pick (IsWellFormed pages) (writes_memory t) (record s { memory = with_number s.memory a (bytes_in (size_of t)) n }) s
      (λ e. with_memory s (with_number s.memory a (bytes_in (size_of t)) n) (stored_data s.memory a (bytes_in (size_of t)) n h.memory) h) (λ e. h)

  data_fine : (t : Transfer) (rd a : ℕ) (o : Option ℕ) (s : State) → IfSome o (λ n. n < 256 ^ bytes_in (size_of t)) → IsWellFormed pages s → Fine (transfers_data t rd a o s)
  data_fine t rd a None s small h = tt
  data_fine t rd a (Some n) s small h = takes_fine (received t rd n) (leaves_in_data t a (sent (reg s) t rd) s) (received_words t rd n small) (left_in_data t a (sent (reg s) t rd) s h)

  -- a slot is reached by an LD or ST alone, and is there
  record Reaches (t : Transfer) (rd a word : ℕ) (s : State) : Type 0 where
    there : s.registers.newest.slots a ≡ Some word
    size : bytes_in (size_of t) ≡ 4
    out : writes_memory t ≡ true → sent (reg s) t rd ≡ reg s rd

  reaches : (t : Transfer) (rd a word : ℕ) (s : State) → slot_of t s a ≡ Some word → Reaches t rd a word s
  reaches (transfers.Load loadings.Word) rd a word s e = record { there = e; size = refl; out = λ h. absurd (cc) }
  reaches (transfers.Store sizes.Word) rd a word s e = record { there = e; size = refl; out = λ h. refl }
  reaches _ rd a word s e = absurd (cc)

  left_in_slot : (t : Transfer) (rd a word : ℕ) (s : State) → Reaches t rd a word s → IsWellFormed pages s → IsWellFormed pages (leaves_in_slot t a (sent (reg s) t rd) s)
  left_in_slot t rd a word s r h = pick (IsWellFormed pages) (writes_memory t) (record s { registers = with_slot a (sent (reg s) t rd) s.registers }) s
      (λ e.
      let same = r.out e in
      let small = word_of s rd h in
      let fits : sent (reg s) t rd < 2 ^ 32 = omega (arith, same) in
      with_calls s (with_slot a (sent (reg s) t rd) s.registers) (calls_slot pages a (sent (reg s) t rd) word s.registers r.there fits h.calls) h)
      (λ e. h)

  found_bound : (t : Transfer) (a : ℕ) (memory : Bytes) (lies : Bool) → AreData memory → IfSome (if lies then number_at memory a (bytes_in (size_of t)) else None) (λ n. n < 256 ^ bytes_in (size_of t))
  found_bound t a memory true all = number_bound memory a (bytes_in (size_of t)) all
  found_bound t a memory false all = tt

  transfer_fine : (parts : Parts) (t : Transfer) (rd a : ℕ) (o : Option ℕ) (s : State) → slot_of t s a ≡ o → IsWellFormed pages s → Fine (transfers_in parts t rd a o s)
  transfer_fine parts t rd a None s e h = data_fine t rd a (found parts t a s.memory) s (found_bound t a s.memory _ h.memory) h
  transfer_fine parts t rd a (Some word) s e h =
      let r = reaches t rd a word s e in
      let small : word < 2 ^ 32 = h.calls.words.newest.slots a word r.there in
      let fits : word < 256 ^ bytes_in (size_of t) = subst (λ n. word < 256 ^ n) (sym r.size) small in
      takes_fine (received t rd word) (leaves_in_slot t a (sent (reg s) t rd) s) (received_words t rd word fits) (left_in_slot t rd a word s r h)

  -- ---- frames, transfers of control and services

  saved_fine : (parts : Parts) (fresh : Fresh) (rd b : ℕ) (s : State) → parts.stack_pages ≡ pages → IsFresh fresh → b < 2 ^ 32 → IsWellFormed pages s
      → Fine (if (rd == 14) && is_base parts (reg s 14) b then Goes (advanced (record s { registers = pushed fresh b s.registers })) else Fails BadFrame)
  unfolding reg
  saved_fine parts fresh rd b s same fresh_words small h =
      pick Fine ((rd == 14) && is_base parts (s.registers.newest.outs 14) b) (Goes (advanced (record s { registers = pushed fresh b s.registers })))
      (Fails BadFrame)
      (λ e. let base = base_says parts (s.registers.newest.outs 14) b (second_of (rd == 14) (is_base parts (s.registers.newest.outs 14) b) e) in
      on (record s { registers = pushed fresh b s.registers })
      (with_calls s (pushed fresh b s.registers)
      (calls_pushed pages fresh b s.registers fresh_words small (subst (λ n. IsBase n (s.registers.newest.outs 14) b) same base) h.calls) h))
      (λ e. tt)
    where
      second_of : (a b : Bool) → (a && b) ≡ true → b ≡ true
      second_of true b e = e
      second_of false b e = absurd (cc)

  restored_fine : (rd v : ℕ) (o : Option Registers) (s : State) → popped s.registers ≡ o → v < 2 ^ 32 → IsWellFormed pages s → Fine (restores rd v o s)
  restored_fine rd v None s e small h = tt
  restored_fine rd v (Some file) s e small h = written_fine rd v (record s { registers = file }) small (with_calls s file (calls_popped pages s.registers file e h.calls) h)

  branched_place : (b : Branch) (s : State) → IsWellFormed pages s → IsPlace (branched b s)
  branched_place b s h = pick IsPlace (holds b.cond s.icc) (target s.pc b.displacement) (following s.npc) (λ e. target_place s.pc b.displacement h.pc) (λ e. next_place s.npc h.npc)

  got : (input : List ℕ) (s : State) → AreBytes input → IsWellFormed pages s → IsWellFormed pages (gets input s)
  got [] s bytes h = with_word_in 8 (2 ^ 32 - 1) s (omega arith) (omega arith) (omega arith) h
  got (byte ∷ rest) s bytes h =
      let small = bytes 0 in
      with_word_in 8 byte (record s { input = rest }) (omega arith) (omega arith) (omega arith)
      (record { pc = h.pc; npc = h.npc; y = h.y; calls = h.calls; memory = h.memory; input = λ i. bytes (suc i); output = h.output; exit = h.exit })

  served_fine : (n : ℕ) (s : State) → IsWellFormed pages s → IsWellFormed pages (served n s)
  served_fine zero s h = record { pc = h.pc; npc = h.npc; y = h.y; calls = h.calls; memory = h.memory; input = h.input; output = h.output; exit = word_of s 8 h }
  served_fine (suc zero) s h = got s.input s h.input h
  served_fine (suc (suc n)) s h =
      record {
        pc = h.pc;
        npc = h.npc;
        y = h.y;
        calls = h.calls;
        memory = h.memory;
        input = h.input;
        output =
            pushed_byte s.output (reg s 8 % 2 ^ 8) h.output (omega arith);
        exit = h.exit;
      }

  service_fine : (services : Services) (o : Option ℕ) (s : State) → IsWellFormed pages s → Fine (serves services o s)
  service_fine services None s h = tt
  service_fine services (Some n) s h = pick Fine (declares services n) (Goes (advanced (served n s))) (Fails NoService) (λ e. on (served n s) (served_fine n s h)) (λ e. tt)

  -- a computed target is that of a return, which keeps no place
  no_link : (f : Three) → (is_ret f || is_retl f) ≡ true → f.rd ≡ 0
  no_link f e = by_tests (f.rd == 0) (f.rs1 == 31) (f.rs1 == 15) (is_immediate_of 8 f.operand2) refl e
    where
      zero_of : (f.rd == 0) ≡ true → f.rd ≡ 0
      zero_of h = grind (arith, nat_tests)

      by_tests : (a b c d : Bool) → (f.rd == 0) ≡ a → ((a && b && d) || (a && c && d)) ≡ true → f.rd ≡ 0
      by_tests true b c d h e = zero_of h
      by_tests false b c d h e = absurd (cc)

  jumped_fine : (rd t : ℕ) (s : State) → rd ≡ 0 → t < 2 ^ 32 → IsWellFormed pages s → Fine (if t % 4 == 0 then Goes (transferred t (with_reg rd s.pc s)) else Fails Misaligned)
  jumped_fine rd t s none small h = pick Fine (t % 4 == 0) (Goes (transferred t (with_reg rd s.pc s))) (Fails Misaligned)
      (λ e. let p = h.pc.word in moved (with_reg rd s.pc s) t (record { word = small; whole = grind (arith, nat_tests) }) (with_word_in rd s.pc s (omega arith) (omega arith) p h)) (λ e. tt)

  -- ---- the step

  does_fine : (parts : Parts) (fresh : Fresh) (op : Operation) (s : State) → parts.stack_pages ≡ pages → IsFresh fresh → is_admitted op ≡ true →
      SmallSecond op → IsWellFormed pages s → Fine (does parts fresh op s)
  unfolding is_admitted
  does_fine parts fresh (Compute op f) s same fresh_words can small h =
      result_fine f.rd (outcome op (reg s f.rs1) (operand_value s f.operand2) s.icc s.y) s
      (outcome_words op (reg s f.rs1) (operand_value s f.operand2) s.icc s.y (word_of s f.rs1 h) (operand_word s f.operand2 small h) h.y) h
  does_fine parts fresh (Divide op f) s same fresh_words can small h =
      some_fine f.rd ZeroDivisor (division_of op (reg s f.rs1) (operand_value s f.operand2) s.icc s.y) s (division_words op (reg s f.rs1) (operand_value s f.operand2) s.icc s.y h.y) h
  does_fine parts fresh (TaggedTrap op f) s same fresh_words can small h =
      some_fine f.rd TagOverflow (tagged_outcome op (reg s f.rs1) (operand_value s f.operand2) s.icc s.y) s (tagged_words op (reg s f.rs1) (operand_value s f.operand2) s.icc s.y h.y) h
  does_fine parts fresh (SetHigh f) s same fresh_words can small h = written_fine f.rd (high_word f) s (omega arith) h
  does_fine parts fresh (ReadY rd) s same fresh_words can small h = written_fine rd s.y s h.y h
  does_fine parts fresh (WriteY f) s same fresh_words can small h =
      let y = bit_xor (reg s f.rs1) (operand_value s f.operand2) in
      on (record s { y = y }) (with_codes s s.icc y (xor_lt 32 (reg s f.rs1) (operand_value s f.operand2) (word_of s f.rs1 h) (operand_word s f.operand2 small h)) h)
  does_fine parts fresh (operation.Transfer t m) s same fresh_words can small h =
      let a = address_in s m in
      pick Fine (a % bytes_in (size_of t) == 0) (transfers_in parts t m.rd a (slot_of t s a) s) (Fails Misaligned) (λ e. transfer_fine parts t m.rd a (slot_of t s a) s refl h) (λ e. tt)
  does_fine parts fresh (Save f) s same fresh_words can small h = saved_fine parts fresh f.rd (address (reg s) f.rs1 f.operand2) s same fresh_words (omega arith) h
  does_fine parts fresh (Restore f) s same fresh_words can small h = restored_fine f.rd (address (reg s) f.rs1 f.operand2) (popped s.registers) s refl (omega arith) h
  does_fine parts fresh (Call displacement) s same fresh_words can small h =
      moved (with_reg 15 s.pc s) (target s.pc displacement) (target_place s.pc displacement h.pc)
      (with_word_in 15 s.pc s (omega arith) (omega arith) h.pc.word h)
  does_fine parts fresh (BranchOnCondition b) s same fresh_words can small h =
      let to = moved s (branched b s) (branched_place b s h) h in
      record { pc = to.pc; npc = to.npc; y = to.y; calls = to.calls; memory = to.memory; input = to.input; output = to.output; exit = to.exit }
  does_fine parts fresh (JumpAndLink f) s same fresh_words can small h = jumped_fine f.rd (address (reg s) f.rs1 f.operand2) s (no_link f can) (omega arith) h
  does_fine parts fresh (TrapOnCondition t) s same fresh_words can small h = service_fine parts.services (service_of t) s h
  does_fine parts fresh (ReadState r rd) s same fresh_words can small h = tt
  does_fine parts fresh (WriteState r f) s same fresh_words can small h = tt
  does_fine parts fresh (ReturnFromTrap f) s same fresh_words can small h = tt
  does_fine parts fresh Nothing s same fresh_words can small h = tt
  does_fine parts fresh Illegal s same fresh_words can small h = tt
  does_fine parts fresh FloatingPoint s same fresh_words can small h = tt
  does_fine parts fresh Coprocessor s same fresh_words can small h = tt

  fetched_fine : (parts : Parts) (fresh : Fresh) (o : Option ℕ) (s : State) → parts.stack_pages ≡ pages → IsFresh fresh → IsWellFormed pages s → Fine (fetches parts fresh o s)
  fetched_fine parts fresh None s same fresh_words h = tt
  fetched_fine parts fresh (Some word) s same fresh_words h =
      pick Fine (is_admitted (asked word)) (does parts fresh (asked word) s) (Fails NotAdmitted)
      (λ e. does_fine parts fresh (asked word) s same fresh_words e (small_second word) h) (λ e. tt)

  going_fine : (parts : Parts) (fresh : Fresh) (s : State) (exit : Option ℕ) (annulled : Bool) → parts.stack_pages ≡ pages → IsFresh fresh →
      IsWellFormed pages s → Fine (goes_on parts fresh s exit annulled)
  going_fine parts fresh s (Some status) annulled same fresh_words h = tt
  going_fine parts fresh s None true same fresh_words h =
      record { pc = h.npc; npc = next_place s.npc h.npc; y = h.y; calls = h.calls; memory = h.memory; input = h.input; output = h.output; exit = h.exit }
  going_fine parts fresh s None false same fresh_words h = fetched_fine parts fresh (word_at parts.words s.pc) s same fresh_words h

  turn_fine : (parts : Parts) (fresh : Fresh) (s : State) → parts.stack_pages ≡ pages → IsFresh fresh → IsWellFormed pages s → Fine (turn parts fresh s)
  unfolding turn
  turn_fine parts fresh s same fresh_words h = going_fine parts fresh s s.exit s.annulled same fresh_words h

-- each step
pub stays_well_formed : (parts : Parts) (s next : State) → IsWellFormed parts.stack_pages s → Step parts s next → IsWellFormed parts.stack_pages next
stays_well_formed parts s next h step = subst (Fine parts.stack_pages) step.2 (turn_fine parts.stack_pages parts step.0 s refl step.1 h)

-- ---- runs

one_call : (older : List Frame) → older ≡ [] → AllByRecursion HasWords older × (length older ≡ 0)
one_call [] e = (tt, refl)
one_call (f ∷ fs) e = absurd (cc)

no_slot : (o : Option ℕ) (w : ℕ) → o ≡ None → o ≡ Some w → ⊥
no_slot o w e f = cc

first_base : (file : Registers) (b : ℕ) → file.newest.outs 14 ≡ b → base file 0 ≡ b
unfolding cell
first_base file b e = e

first_slot : (file : Registers) (a w : ℕ) → slot file 0 a ≡ Some w → file.newest.slots a ≡ Some w
unfolding slot
first_slot file a w e = e

stacked_start : (pages : ℕ) (file : Registers) → 1 ≤ pages → depth file ≡ 1 → file.newest.outs 14 ≡ 0x000FFFC0 → IsStacked pages file
stacked_start pages file some one e =
    let b = first_base file 0x000FFFC0 e in
    record {
      aligned = λ k less. let z : k ≡ 0 = omega arith in subst (λ i. base file i % 8 ≡ 0) (sym z) (ap (λ x. x % 8) b);
      low = λ k less. let z : k ≡ 0 = omega arith in subst (λ i. 0x100000 ≤ base file i + 4096 * pages) (sym z) (omega (arith, b));
      high = λ k less. let z : k ≡ 0 = omega arith in subst (λ i. base file i + 64 ≤ 0x100000) (sym z) (omega (arith, b));
      apart = λ k i less within. absurd (omega arith);
    }

pub starts_well_formed : (parts : Parts) (input : List ℕ) (s : State) → 1 ≤ parts.stack_pages → AllByRecursion IsTypedRegion parts.regions → AreBytes input →
    IsStart parts input s → IsWellFormed parts.stack_pages s
starts_well_formed parts input s some bytes all start =
    let one = one_call s.registers.older start.one_frame in
    let single : depth s.registers ≡ 1 = ap suc one.1 in
    let pc = start.pc in
    let npc = start.npc in
    record {
      pc = record { word = omega (arith, pc); whole = ap (λ x. x % 4) pc };
      npc = record { word = omega (arith, npc); whole = ap (λ x. x % 4) npc };
      y = start.y;
      calls = record {
        words = record {
          globals = start.globals;
          newest = record { locals = start.locals; outs = start.outs; slots = λ a w e. absurd (no_slot (s.registers.newest.slots a) w (start.slots a) e) };
          older = one.0;
          oldest_ins = start.ins;
        };
        stacked = stacked_start parts.stack_pages s.registers some single start.base;
        slots = λ k a w less e. absurd (let z : k ≡ 0 = omega (arith, single) in
            no_slot (s.registers.newest.slots a) w (start.slots a) (first_slot s.registers a w (subst (λ i. slot s.registers i a ≡ Some w) z e)));
      };
      memory = λ a b e. data_is_byte parts.regions a b bytes (sym (start.memory a) ∙ e);
      input = subst AreBytes (sym start.input) all;
      output = subst AreBytes (sym start.output) no_bytes;
      exit = none_small s.exit start.exit;
    }
  where
    no_bytes : AreBytes []
    no_bytes zero = omega arith
    no_bytes (suc i) = omega arith

    none_small : (o : Option ℕ) → o ≡ None → IfSome o (λ word. word < 2 ^ 32)
    none_small None e = tt
    none_small (Some w) e = absurd (cc)

run_stays : (parts : Parts) (path : List Place) (s t : State) → IsWellFormed parts.stack_pages s → Run parts s path t → IsWellFormed parts.stack_pages t
run_stays parts [] s t h run = subst (IsWellFormed parts.stack_pages) run h
run_stays parts (p ∷ path) s t h run = run_stays parts path run.0 t (stays_well_formed parts s run.0 h run.2) run.3

pub runs_well_formed : (parts : Parts) (input : List ℕ) (path : List Place) (s : State) → 1 ≤ parts.stack_pages → AllByRecursion IsTypedRegion parts.regions →
    AreBytes input → FlatRun parts input path s → IsWellFormed parts.stack_pages s
runs_well_formed parts input path s some bytes all run = run_stays parts path run.0 s (starts_well_formed parts input run.0 some bytes all run.1) run.2

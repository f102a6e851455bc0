-- One turn of a vector or a routine.
--   At                      so many turns lead to this processor, and to RAM with these words of the mailbox
--   vector_runs, routine_runs         a word that reaches no memory
--   vector_moves, routine_moves       a word that reaches the mailbox or the buffers
use Rattle.std.proofs.Common.{◌≡◌, ℕ, suc, ◌+◌, ◌*◌, ◌%◌, ◌<◌, true, false, List, Option, Some, None, Ok, refl, ap, ◌∙◌}
use Rattle.std.specs.Prelude.{◌==◌, not, slice_index}
use Rattle.v8_core.specs.AccessKind.TheVariants.{Fetch}
use Rattle.v8_core.specs.Accesses.{World, data_kind, moving, quiet, transfer_ends, transfers, world}
use Rattle.v8_core.specs.Control.{Control}
use Rattle.v8_core.specs.Cpu.{Cpu}
use Rattle.v8_core.specs.Effects.{address_of, taken}
use Rattle.v8_core.specs.Memory.{Memory, fetches, moves}
use Rattle.v8_core.specs.MemoryOperand.{MemoryOperand}
use Rattle.v8_core.specs.MmuRegs.{MmuRegs}
use Rattle.v8_core.specs.Operand.{Operand}
use Rattle.v8_core.specs.Operation.{Operation}
use Rattle.v8_core.specs.Operation.TheVariants.{Transfer as Moved}
use Rattle.v8_core.specs.Paths.{marked_ram}
use Rattle.v8_core.specs.Space.TheVariants.{Normal}
use Rattle.v8_core.specs.Steps.{acts, next, world_after}
use Rattle.v8_core.specs.Transfer.{Transfer}
use Rattle.v8_core.specs.Transfers.{bytes_in, sent, size_of, splits_pair, writes_memory}
use Rattle.v8_core.specs.Traps.{applies, first_trap, memory_applies}
use Rattle.v8_core.specs.Walked.{root_of}
use Rattle.v8_core.specs.Windows.{reg_of}
use Rattle.v8_core.specs.declared.access.Moved.{Moved as Moving}
use Rattle.v8_core.specs.declared.access.Moved.TheVariants.{Done}
use Rattle.v8_core.specs.declared.turn.DataAccess.{DataAccess}
use Rattle.v8_core.specs.declared.turn.Outcome.{Outcome}
use Rattle.v8_core.specs.declared.turn.Turn.{Turn}
use Rattle.v8_core.proofs.Turns.{runs_to}
use Rattle.v8_loaded.specs.Board.{Device, board}
use Rattle.v8_loaded.proofs.Effects.{Does}
use Rattle.v8_loaded.proofs.Stages.{Inside, registers, stage}
use Rattle.v8_loaded.proofs.Words.{Asks}
use Rattle.leon_words.specs.Words.{mail_routines, mail_vectors}
use Rattle.leon_services.proofs.Pages.{by_supervisor, routine_fetched, routines_spot, table_spot, vector_fetched}
use Rattle.leon_services.proofs.Kept.{Kept, Moves, kept_marked, memory_of}

-- so many turns lead from a world to this processor, and to RAM that keeps what `old` has
pub record At (n b : ℕ) (mmu : MmuRegs) (x : World n Device) (old : List ℕ) (j : ℕ) (cpu : Cpu n) (cells : List ℕ) : Type 0 where
  pub ram : List ℕ
  pub kept : Kept b old ram cells
  pub is : world_after board n mmu j x ≡ world n cpu ram x.memory.device

-- a load or a store with an offset
abbrev pub reach : ℕ → ℕ → Operand → MemoryOperand
reach rd rs1 o = record { rd = rd; rs1 = rs1; operand2 = o; space = Normal }

pub calm_transfer : (n : ℕ) (cpu : Cpu n) (t : Transfer) (rd rs1 : ℕ) (o : Operand) (va : ℕ) → address_of n cpu rs1 o ≡ va →
    (va % bytes_in (size_of t) == 0) ≡ true → splits_pair (size_of t) rd ≡ false → first_trap n cpu (Moved t (reach rd rs1 o)) ≡ None
unfolding applies memory_applies
calm_transfer n cpu t rd rs1 o va at whole pair = rw at (rw whole (rw pair refl))

moves_to : (n : ℕ) (mmu : MmuRegs) (c : Control) (w : ℕ) (y : Inside) (t : Transfer) (rd rs1 : ℕ) (o : Operand) (va number v pa : ℕ)
    (ram after : List ℕ) (d : Device) → address_of n (stage n c w w y) rs1 o ≡ va → sent (reg_of n (registers w w y)) t rd ≡ number →
    moves board mmu va (by_supervisor (data_kind (writes_memory t))) t number (memory_of ram d) ≡ (Done v pa, memory_of after d) →
    acts board n mmu (Moved t (reach rd rs1 o)) (world n (stage n c w w y) ram d) ≡ (moving va pa (size_of t) (writes_memory t), world n (taken n (stage n c w w y) t rd v) after d)
unfolding transfers
moves_to n mmu c w y t rd rs1 o va number v pa ram after d at out done =
    let cpu = stage n c w w y in
    let a = by_supervisor (data_kind (writes_memory t)) in
    let F : ℕ → Moving × Memory Device → Outcome × World n Device = λ p l. transfer_ends n p t rd cpu l.0 l.1 in
    ap (λ p. F p (moves board mmu p a t (sent (reg_of n (registers w w y)) t rd) (memory_of ram d))) at
    ∙ ap (λ s. F va (moves board mmu va a t s (memory_of ram d))) out
    ∙ ap (F va) done

module _ (n b : ℕ) (mmu : MmuRegs) (x : World n Device) (root : root_of mmu ≡ b + 0x2000) (running : x.memory.device.stopped ≡ None) where
  abbrev d : Device
  d = x.memory.device

  -- a word at this fetch
  runs : (old : List ℕ) (j : ℕ) (cpu new : Cpu n) (cells : List ℕ) (word : ℕ) (i : Operation) (marks : List ℕ) (a : At n b mmu x old j cpu cells) →
      fetches mmu cpu.control.pc (by_supervisor Fetch) a.ram ≡ (Ok word, marks) → Kept b old marks cells → Asks word i → Does n cpu i new →
      At n b mmu x old (suc j) new cells
  runs old j cpu new cells word i marks a fetch kept asks e =
      let turn = runs_to board n mmu cpu a.ram marks d word i None (world n new marks d)
      (record { running = running; sane = e.sane; straight = e.straight })
      (ap (λ s. fetches mmu cpu.control.pc (record { user = not s; kind = Fetch }) a.ram) e.system ∙ fetch) asks e.calm
      (e.plain mmu (world n cpu marks d) ∙ ap (λ (c : Cpu n). (quiet, world n c marks d)) e.is) in
      record { ram = marks; kept = kept; is = ap (λ y. (next board n mmu y).1) a.is ∙ ap (λ (p : Turn × World n Device). p.1) turn }

  abbrev table_marks : List ℕ → List ℕ
  table_marks ram = marked_ram ram (b + 0x2D00) false

  abbrev routine_marks : List ℕ → List ℕ
  routine_marks ram = marked_ram ram (b + 0x2D04) false

  table_kept : (old ram cells : List ℕ) → Kept b old ram cells → Kept b old (table_marks ram) cells
  table_kept old ram cells k = kept_marked b old ram cells k (b + 0x2D00) false (table_spot b ram mmu k.services root)

  routine_kept : (old ram cells : List ℕ) → Kept b old ram cells → Kept b old (routine_marks ram) cells
  routine_kept old ram cells k = kept_marked b old ram cells k (b + 0x2D04) false (routines_spot b ram mmu k.services root)

  table_fetch : (old cells : List ℕ) (k pc : ℕ) (ram : List ℕ) → Kept b old ram cells → k < 12 → pc ≡ 0xF0000800 + 4 * k →
      fetches mmu pc (by_supervisor Fetch) ram ≡ (Ok (slice_index mail_vectors k), table_marks ram)
  table_fetch old cells k pc ram kept less at =
      ap (λ p. fetches mmu p (by_supervisor Fetch) ram) at ∙ vector_fetched b ram mmu kept.services root k less

  routine_fetch : (old cells : List ℕ) (k pc : ℕ) (ram : List ℕ) → Kept b old ram cells → k < 37 → pc ≡ 0xF0001100 + 4 * k →
      fetches mmu pc (by_supervisor Fetch) ram ≡ (Ok (slice_index mail_routines k), routine_marks ram)
  routine_fetch old cells k pc ram kept less at =
      ap (λ p. fetches mmu p (by_supervisor Fetch) ram) at ∙ routine_fetched b ram mmu kept.services root k less

  pub vector_runs : {old : List ℕ} {j : ℕ} {cpu new : Cpu n} {cells : List ℕ} {i : Operation} (k : ℕ) → At n b mmu x old j cpu cells → k < 12 →
      cpu.control.pc ≡ 0xF0000800 + 4 * k → Asks (slice_index mail_vectors k) i → Does n cpu i new → At n b mmu x old (suc j) new cells
  vector_runs {old} {j} {cpu} {new} {cells} {i} k a less at asks e =
      runs old j cpu new cells (slice_index mail_vectors k) i (table_marks a.ram) a
      (table_fetch old cells k cpu.control.pc a.ram a.kept less at) (table_kept old a.ram cells a.kept) asks e

  pub routine_runs : {old : List ℕ} {j : ℕ} {cpu new : Cpu n} {cells : List ℕ} {i : Operation} (k : ℕ) → At n b mmu x old j cpu cells → k < 37 →
      cpu.control.pc ≡ 0xF0001100 + 4 * k → Asks (slice_index mail_routines k) i → Does n cpu i new → At n b mmu x old (suc j) new cells
  routine_runs {old} {j} {cpu} {new} {cells} {i} k a less at asks e =
      runs old j cpu new cells (slice_index mail_routines k) i (routine_marks a.ram) a
      (routine_fetch old cells k cpu.control.pc a.ram a.kept less at) (routine_kept old a.ram cells a.kept) asks e

  -- ---- loads and stores

  -- what a load or a store finds and makes: its address, its number, and what becomes of memory and registers
  pub record Reaches (old made : List ℕ) (c : Control) (w : ℕ) (y : Inside) (cells : List ℕ) (t : Transfer) (rd rs1 : ℕ) (o : Operand)
      (new : Cpu n) (found : List ℕ) : Type 0 where
    pub va : ℕ
    pub number : ℕ
    pub v : ℕ
    pub pa : ℕ
    pub at : address_of n (stage n c w w y) rs1 o ≡ va
    pub whole : (va % bytes_in (size_of t) == 0) ≡ true
    pub pair : splits_pair (size_of t) rd ≡ false
    pub out : sent (reg_of n (registers w w y)) t rd ≡ number
    pub moves : (ram : List ℕ) → Kept b old ram cells → Moves b mmu d made ram va t number v pa found
    pub is : taken n (stage n c w w y) t rd v ≡ new

  moves_at : (old made : List ℕ) (j : ℕ) (c : Control) (w : ℕ) (y : Inside) (cells : List ℕ) (t : Transfer) (rd rs1 : ℕ) (o : Operand) (new : Cpu n) (found : List ℕ)
      (word : ℕ) (marks : List ℕ) (a : At n b mmu x old j (stage n c w w y) cells) →
      fetches mmu y.pc (by_supervisor Fetch) a.ram ≡ (Ok word, marks) → Kept b old marks cells → Asks word (Moved t (reach rd rs1 o)) →
      Reaches old made c w y cells t rd rs1 o new found → At n b mmu x made (suc j) new found
  moves_at old made j c w y cells t rd rs1 o new found word marks a fetch kept asks r =
      let cpu = stage n c w w y in
      let m = r.moves marks kept in
      let access : Option DataAccess = Some (record { va = r.va; pa = r.pa; size = size_of t; store = writes_memory t }) in
      let turn = runs_to board n mmu cpu a.ram marks d word (Moved t (reach rd rs1 o)) access (world n new m.after d)
      (record { running = running; sane = refl; straight = refl }) fetch asks (calm_transfer n cpu t rd rs1 o r.va r.at r.whole r.pair)
      (moves_to n mmu c w y t rd rs1 o r.va r.number r.v r.pa marks m.after d r.at r.out m.does
      ∙ ap (λ (k : Cpu n). (moving r.va r.pa (size_of t) (writes_memory t), world n k m.after d)) r.is) in
      record { ram = m.after; kept = m.kept; is = ap (λ z. (next board n mmu z).1) a.is ∙ ap (λ (p : Turn × World n Device). p.1) turn }

  pub vector_moves : {old made : List ℕ} {j : ℕ} {c : Control} {w : ℕ} {y : Inside} {cells : List ℕ} {t : Transfer} {rd rs1 : ℕ} {o : Operand} {new : Cpu n} {found : List ℕ} (k : ℕ) →
      At n b mmu x old j (stage n c w w y) cells → k < 12 → y.pc ≡ 0xF0000800 + 4 * k → Asks (slice_index mail_vectors k) (Moved t (reach rd rs1 o)) →
      Reaches old made c w y cells t rd rs1 o new found → At n b mmu x made (suc j) new found
  vector_moves {old} {made} {j} {c} {w} {y} {cells} {t} {rd} {rs1} {o} {new} {found} k a less at asks r =
      moves_at old made j c w y cells t rd rs1 o new found (slice_index mail_vectors k) (table_marks a.ram) a
      (table_fetch old cells k y.pc a.ram a.kept less at) (table_kept old a.ram cells a.kept) asks r

  pub routine_moves : {old made : List ℕ} {j : ℕ} {c : Control} {w : ℕ} {y : Inside} {cells : List ℕ} {t : Transfer} {rd rs1 : ℕ} {o : Operand} {new : Cpu n} {found : List ℕ} (k : ℕ) →
      At n b mmu x old j (stage n c w w y) cells → k < 37 → y.pc ≡ 0xF0001100 + 4 * k → Asks (slice_index mail_routines k) (Moved t (reach rd rs1 o)) →
      Reaches old made c w y cells t rd rs1 o new found → At n b mmu x made (suc j) new found
  routine_moves {old} {made} {j} {c} {w} {y} {cells} {t} {rd} {rs1} {o} {new} {found} k a less at asks r =
      moves_at old made j c w y cells t rd rs1 o new found (slice_index mail_routines k) (routine_marks a.ram) a
      (routine_fetch old cells k y.pc a.ram a.kept less at) (routine_kept old a.ram cells a.kept) asks r

-- The words of the vectors: what each of them does.
use Rattle.std.proofs.Common.{◌≡◌, ℕ, ◌+◌, ◌%◌, ◌^◌, ◌<◌, true, false, List, [], ◌∷◌, ◌++◌, Some, None, refl, ap, ◌∙◌, arith}
use Rattle.std.specs.Prelude.{◌==◌}
use Rattle.v8_core.specs.Size.TheVariants.{Word}
use Rattle.v8_core.specs.Operand.TheVariants.{Register, Immediate}
use Rattle.v8_core.specs.Three.{Three}
use Rattle.v8_core.specs.Two.{Two}
use Rattle.v8_core.specs.Operands.{following}
use Rattle.v8_core.specs.Operations.{load, store}
use Rattle.v8_core.specs.Loading.TheVariants as loadings
use Rattle.v8_core.specs.MemoryOperand.{MemoryOperand}
use Rattle.v8_core.specs.Operation.{Operation}
use Rattle.v8_core.specs.Operation.TheVariants.{SetHigh, JumpAndLink, ReturnFromTrap}
use Rattle.v8_core.specs.Space.TheVariants.{Normal}
use Rattle.v8_core.specs.Transfer.TheVariants as transfer
use Rattle.v8_core.specs.Windows.{Windows, above, can_enter, moved, reg_of, trapped, with_reg}
use Rattle.v8_core.specs.AccessKind.TheVariants as kinds
use Rattle.v8_core.specs.Stop.TheVariants.{Exit}
use Rattle.v8_core.specs.MmuRegs.{MmuRegs}
use Rattle.v8_core.specs.Walked.{root_of}
use Rattle.v8_core.specs.Effects.{address_of, effect, taken, written, advanced, jumped, returned}
use Rattle.v8_core.specs.Traps.{applies, first_trap, memory_applies}
use Rattle.v8_core.specs.Cpu.{Cpu}
use Rattle.v8_core.specs.declared.access.Moved.{Moved}
use Rattle.v8_core.specs.declared.access.Moved.TheVariants.{Done}
use Rattle.v8_core.specs.declared.turn.Outcome.{Outcome}
use Rattle.v8_core.specs.Accesses.{World, world, moving, quiet, transfer_ends, transfers}
use Rattle.v8_core.specs.Memory.{Memory, moves, move_through}
use Rattle.v8_core.specs.Steps.{acts}
use Rattle.v8_loaded.specs.Layout.{Pages, AreFew, IsLoaded}
use Rattle.v8_loaded.specs.Board.{Device, board, board_load, board_store, device_load, device_store, gets}
use Rattle.v8_loaded.specs.Places.{device_marked}
use Rattle.v8_loaded.specs.Users.{in_vector}
use Rattle.v8_loaded.proofs.Fetches.{by_supervisor, reaches_device, reaches_input}
use Rattle.v8_routines.specs.Services.{vector_registers}

-- ---- the words of the vectors

-- sethi %hi(device),%l3
abbrev pub set_device : Operation
set_device = SetHigh (record { rd = 19; imm22 = 0x3C0040 })

pub sets_device : (n : ℕ) (mmu : MmuRegs) (c : Cpu n) (t : ℕ) (v : Windows) (pc npc a b : ℕ) (ram : List ℕ) (d : Device) →
    acts board n mmu set_device (world n (in_vector n c t (trapped n v pc npc) a b) ram d) ≡ (quiet, world n (in_vector n c t (vector_registers n v pc npc) b (following b)) ram d)
unfolding effect written advanced with_reg
sets_device n mmu c t v pc npc a b ram d = refl

-- ld [%l3],%i0
abbrev pub at_device : ℕ → MemoryOperand
at_device offset = record { rd = 24; rs1 = 19; operand2 = Immediate offset; space = Normal }

abbrev pub load_input : Operation
load_input = load loadings.Word (at_device 0)

-- st %i0,[%l3+4] and st %i0,[%l3+8]
abbrev pub store_word : ℕ → Operation
store_word offset = store Word (at_device offset)

pub calm_load : (n : ℕ) (cpu : Cpu n) (place : ℕ) → address_of n cpu 19 (Immediate 0) ≡ place →
    (place % 4 == 0) ≡ true → first_trap n cpu load_input ≡ None
unfolding applies memory_applies
calm_load n cpu place at whole = rw at (rw whole refl)

pub calm_store : (n : ℕ) (cpu : Cpu n) (offset place : ℕ) → address_of n cpu 19 (Immediate offset) ≡ place →
    (place % 4 == 0) ≡ true → first_trap n cpu (store_word offset) ≡ None
unfolding applies memory_applies
calm_store n cpu offset place at whole = rw at (rw whole refl)

pub calm_jump : (n : ℕ) (cpu : Cpu n) (f : Three) (place : ℕ) → address_of n cpu f.rs1 f.operand2 ≡ place →
    (place % 4 == 0) ≡ true → first_trap n cpu (JumpAndLink f) ≡ None
unfolding applies
calm_jump n cpu f place at whole = rw at (rw whole refl)

pub calm_return : (n : ℕ) (c : Cpu n) (t : ℕ) (regs : Windows) (pc npc : ℕ) (f : Two) (place : ℕ) →
    can_enter regs (above n regs.current) ≡ true →
    address_of n (in_vector n c t regs pc npc) f.rs1 f.operand2 ≡ place → (place % 4 == 0) ≡ true →
    first_trap n (in_vector n c t regs pc npc) (ReturnFromTrap f) ≡ None
unfolding applies
calm_return n c t regs pc npc f place free at whole = rw free (rw at (rw whole refl))

-- what the device gives, and takes
pub input_loaded : (n : ℕ) (g : Pages) (words ram : List ℕ) (mmu : MmuRegs) (d : Device) → AreFew g →
    IsLoaded n g words ram → root_of mmu ≡ 0x2000 →
    moves board mmu 0xF0010000 (by_supervisor kinds.Load) (transfer.Load loadings.Word) 0 (record { ram = ram; device = d }) ≡
    (Done (gets d).0 0x100000000, record { ram = device_marked false ram; device = (gets d).1 })
unfolding moves board_load device_load
input_loaded n g words ram mmu d few loaded root =
    ap (λ r. move_through board (by_supervisor kinds.Load) (transfer.Load loadings.Word) 0 (record { ram = ram; device = d }) r) (reaches_input n g words ram mmu few loaded root)

pub word_put : (n : ℕ) (g : Pages) (words ram : List ℕ) (mmu : MmuRegs) (d : Device) (v : ℕ) → AreFew g →
    IsLoaded n g words ram → root_of mmu ≡ 0x2000 →
    moves board mmu 0xF0010004 (by_supervisor kinds.Store) (transfer.Store Word) v (record { ram = ram; device = d }) ≡
    (Done 0 0x100000004, record { ram = device_marked true ram; device = record d { output = d.output ++ (v % 2 ^ 8) ∷ [] } })
unfolding moves board_store device_store
word_put n g words ram mmu d v few loaded root =
    ap (λ r. move_through board (by_supervisor kinds.Store) (transfer.Store Word) v (record { ram = ram; device = d }) r)
    (reaches_device n g words ram mmu few loaded root 0xF0010004 (omega arith) (omega arith))

pub word_stopped : (n : ℕ) (g : Pages) (words ram : List ℕ) (mmu : MmuRegs) (d : Device) (v : ℕ) → AreFew g →
    IsLoaded n g words ram → root_of mmu ≡ 0x2000 →
    moves board mmu 0xF0010008 (by_supervisor kinds.Store) (transfer.Store Word) v (record { ram = ram; device = d }) ≡
    (Done 0 0x100000008, record { ram = device_marked true ram; device = record d { stopped = Some (Exit v) } })
unfolding moves board_store device_store
word_stopped n g words ram mmu d v few loaded root =
    ap (λ r. move_through board (by_supervisor kinds.Store) (transfer.Store Word) v (record { ram = ram; device = d }) r)
    (reaches_device n g words ram mmu few loaded root 0xF0010008 (omega arith) (omega arith))

pub address_is : (n : ℕ) (c : Cpu n) (t : ℕ) (regs : Windows) (pc npc rs1 v offset : ℕ) → reg_of n regs rs1 ≡ v →
    address_of n (in_vector n c t regs pc npc) rs1 (Immediate offset) ≡ (v + offset) % 2 ^ 32
unfolding address_of
address_is n c t regs pc npc rs1 v offset reads = ap (λ a. (a + offset) % 2 ^ 32) reads

none_read : (n : ℕ) (regs : Windows) → reg_of n regs 0 ≡ 0
unfolding reg_of
none_read n regs = refl

pub register_address_is : (n : ℕ) (c : Cpu n) (t : ℕ) (regs : Windows) (pc npc rs1 v : ℕ) → reg_of n regs rs1 ≡ v →
    v < 2 ^ 32 → address_of n (in_vector n c t regs pc npc) rs1 (Register 0) ≡ v
unfolding address_of
register_address_is n c t regs pc npc rs1 v reads small =
    ap (λ a. (a + reg_of n regs 0) % 2 ^ 32) reads ∙ ap (λ b. (v + b) % 2 ^ 32) (none_read n regs)
    ∙ (let e : (v + 0) % 2 ^ 32 ≡ v = omega arith in e)

-- ---- what the words of a vector do

pub loads_input : (n : ℕ) (mmu : MmuRegs) (c : Cpu n) (t : ℕ) (regs : Windows) (a b : ℕ) (ram after : List ℕ) (d e : Device) (va pa v : ℕ) →
    address_of n (in_vector n c t regs a b) 19 (Immediate 0) ≡ va →
    moves board mmu va (by_supervisor kinds.Load) (transfer.Load loadings.Word) 0 (record { ram = ram; device = d }) ≡
    (Done v pa, record { ram = after; device = e }) →
    acts board n mmu load_input (world n (in_vector n c t regs a b) ram d) ≡ (moving va pa Word false, world n (in_vector n c t (with_reg n regs 24 v) b (following b)) after e)
unfolding transfers taken advanced
loads_input n mmu c t regs a b ram after d e va pa v at done =
    let cpu = in_vector n c t regs a b in
    let F : ℕ → Moved × Memory Device → Outcome × World n Device = λ p l. transfer_ends n p (transfer.Load loadings.Word) 24 cpu l.0 l.1 in
    ap (λ p. F p (moves board mmu p (by_supervisor kinds.Load) (transfer.Load loadings.Word) 0 (record { ram = ram; device = d }))) at
    ∙ ap (F va) done

pub stores_word : (n : ℕ) (mmu : MmuRegs) (c : Cpu n) (t : ℕ) (regs : Windows) (a b offset : ℕ) (ram after : List ℕ) (d e : Device) (va pa v : ℕ) →
    address_of n (in_vector n c t regs a b) 19 (Immediate offset) ≡ va → reg_of n regs 24 ≡ v →
    moves board mmu va (by_supervisor kinds.Store) (transfer.Store Word) v (record { ram = ram; device = d }) ≡
    (Done 0 pa, record { ram = after; device = e }) →
    acts board n mmu (store_word offset) (world n (in_vector n c t regs a b) ram d) ≡ (moving va pa Word true, world n (in_vector n c t regs b (following b)) after e)
unfolding transfers taken advanced
stores_word n mmu c t regs a b offset ram after d e va pa v at reads done =
    let cpu = in_vector n c t regs a b in
    let F : ℕ → Moved × Memory Device → Outcome × World n Device = λ p l. transfer_ends n p (transfer.Store Word) 24 cpu l.0 l.1 in
    ap (λ p. F p (moves board mmu p (by_supervisor kinds.Store) (transfer.Store Word) (reg_of n regs 24) (record { ram = ram; device = d }))) at
    ∙ ap (λ w. F va (moves board mmu va (by_supervisor kinds.Store) (transfer.Store Word) w (record { ram = ram; device = d }))) reads
    ∙ ap (F va) done

-- jmpl %l2,%g0
abbrev pub jump_back : Operation
jump_back = JumpAndLink (record { rd = 0; rs1 = 18; operand2 = Register 0 })

pub jumps_back : (n : ℕ) (mmu : MmuRegs) (c : Cpu n) (t : ℕ) (regs : Windows) (a b place : ℕ) (ram : List ℕ) (d : Device) →
    address_of n (in_vector n c t regs a b) 18 (Register 0) ≡ place →
    acts board n mmu jump_back (world n (in_vector n c t regs a b) ram d) ≡ (quiet, world n (in_vector n c t regs b place) ram d)
unfolding effect jumped with_reg
jumps_back n mmu c t regs a b place ram d at = ap (λ p. (quiet, world n (in_vector n c t regs b p) ram d)) at

-- rett %l2+4
abbrev pub return_back : Operation
return_back = ReturnFromTrap (record { rs1 = 18; operand2 = Immediate 4 })

-- the processor with the modes of the trapped program
abbrev pub resumed : (n : ℕ) → Cpu n → ℕ → Windows → ℕ → ℕ → Cpu n
resumed n c t regs pc npc = record { regs = regs; control = record c.control { et = true; ps = c.control.s; annul = false; tt = t; pc = pc; npc = npc } }

pub returns_back : (n : ℕ) (mmu : MmuRegs) (c : Cpu n) (t : ℕ) (regs : Windows) (a b place : ℕ) (ram : List ℕ) (d : Device) →
    address_of n (in_vector n c t regs a b) 18 (Immediate 4) ≡ place →
    acts board n mmu return_back (world n (in_vector n c t regs a b) ram d) ≡ (quiet, world n (resumed n c t (moved regs (above n regs.current)) b place) ram d)
unfolding effect returned jumped
returns_back n mmu c t regs a b place ram d at = ap (λ p. (quiet, world n (resumed n c t (moved regs (above n regs.current)) b p) ram d)) at

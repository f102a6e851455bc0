-- The window law: what follows of a moment that the board shows, and the turns of user code that keep it.
use Rattle.std.specs.Prelude.{ℕ, ◌≡◌, ◌+◌, ◌-◌, ◌<◌, true}
use Rattle.v8_core.specs.Three.{Three}
use Rattle.v8_core.specs.Operation.{Operation}
use Rattle.v8_core.specs.Operation.TheVariants.{Restore, Save}
use Rattle.v8_core.specs.Windows.{reg_of}
use Rattle.v8_core.specs.MmuRegs.{MmuRegs}
use Rattle.v8_core.specs.Traps.{window_overflow, window_underflow}
use Rattle.v8_core.specs.declared.turn.Event.TheVariants.{Trapped}
use Rattle.v8_core.specs.Accesses.{World}
use Rattle.v8_loaded.specs.Board.{Device, board}
use Rattle.v8_loaded.specs.Turns.{world_after, turn_at}
use Rattle.v8_loaded.specs.Users.{AsksFor}
use Rattle.sbx_flat.specs.Parts.{Parts}
use Rattle.sbx_flat.specs.Runs.{weight_of}
use Rattle.sbx_flat.specs.States.{State, reg}
use Rattle.sbx_flat.specs.Turns.{IsWrong}
use Rattle.sbx_shows.specs.Advances.{Advances}
use Rattle.sbx_shows.specs.Shows.{Shows}
use Rattle.sbx_shows.specs.Steps.{Stands}

-- both machines read the same in each register
abbrev pub ReadsTheSame : Type 0
ReadsTheSame = (n : ℕ) (parts : Parts) (x : World n Device) (s : State) (r q : ℕ) → Shows n parts x s r → q < 32 →
    reg_of n x.cpu.regs q ≡ reg s q

-- an operation that needs no window but those that calls have: SAVE finds one free, and RESTORE's caller has one
abbrev pub HasWindow : ℕ → ℕ → Operation → Type 0
HasWindow n r (Save f) = r + 1 < n
HasWindow n r (Restore f) = 1 < r
HasWindow n r _ = Unit {0}

-- so many calls have windows after it
abbrev pub windows_after : Operation → ℕ → ℕ
windows_after (Save f) r = r + 1
windows_after (Restore f) r = r - 1
windows_after _ r = r

-- its turns: those of a service's vector too
abbrev pub turns_of : Operation → ℕ
turns_of (Save f) = 1
turns_of (Restore f) = 1
turns_of op = weight_of op

-- User code at a word that takes no window trap, where the flat machine does not fail: each operation keeps what is
-- shown, a service with its vector, and the one that exits ends both machines with the same exit word and output.
abbrev pub UserTurnsKeep : Type 0
UserTurnsKeep =
    (n : ℕ) (parts : Parts) (mmu : MmuRegs) (x : World n Device) (s : State) (r i : ℕ) (op : Operation) →
    Stands n parts mmu x s r i → AsksFor parts.words i op → (IsWrong parts s → ⊥) → HasWindow n r op →
    Advances n parts mmu x s r (turns_of op) 0 0 (windows_after op r)

-- an annulled instruction
abbrev pub AnnulledTurnsKeep : Type 0
AnnulledTurnsKeep =
    (n : ℕ) (parts : Parts) (mmu : MmuRegs) (x : World n Device) (s : State) (r : ℕ) →
    Shows n parts x s r → s.annulled ≡ true → Advances n parts mmu x s r 1 0 0 r

-- ---- window traps

-- A SAVE where all windows but one have calls: window_overflow and the 23 turns of its handler, after which one call
-- less has a window; and the SAVE again.
abbrev pub SavesOverflow : Type 0
SavesOverflow =
    (n : ℕ) (parts : Parts) (mmu : MmuRegs) (x : World n Device) (s : State) (r i : ℕ) (f : Three) →
    Stands n parts mmu x s r i → AsksFor parts.words i (Save f) → (IsWrong parts s → ⊥) → r + 1 ≡ n →
    ((turn_at board n mmu 0 x).event ≡ Trapped window_overflow) × Shows n parts (world_after board n mmu 24 x) s (r - 1)
    × Advances n parts mmu x s r 25 1 0 r

-- A RESTORE where one call has a window: window_underflow and the 23 turns of its handler, after which its caller has
-- one; and the RESTORE again. It may stand in a delay slot.
abbrev pub RestoresUnderflow : Type 0
RestoresUnderflow =
    (n : ℕ) (parts : Parts) (mmu : MmuRegs) (x : World n Device) (s : State) (i : ℕ) (f : Three) →
    Stands n parts mmu x s 1 i → AsksFor parts.words i (Restore f) → (IsWrong parts s → ⊥) →
    ((turn_at board n mmu 0 x).event ≡ Trapped window_underflow) × Shows n parts (world_after board n mmu 24 x) s 2
    × Advances n parts mmu x s 1 25 0 1 1

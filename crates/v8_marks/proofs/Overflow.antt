-- A SAVE that traps: its handler's first and last double word, and what is marked.
use Rattle.std.proofs.Common.{◌≡◌, ℕ, ◌+◌, ◌^◌, ◌<◌, true, List, Some, refl, ◌∙◌, arith}
use Rattle.v8_core.specs.Operand.TheVariants.{Immediate}
use Rattle.v8_core.specs.Operations.{store}
use Rattle.v8_core.specs.Size.TheVariants.{Double}
use Rattle.v8_core.specs.MmuRegs.{MmuRegs}
use Rattle.v8_core.specs.Effects.{address_of}
use Rattle.v8_core.specs.declared.turn.Event.TheVariants.{Ran}
use Rattle.v8_core.specs.Accesses.{World}
use Rattle.v8_core.specs.Steps.{next}
use Rattle.v8_loaded.specs.Handlers.{page_word}
use Rattle.v8_loaded.specs.Layout.{Pages}
use Rattle.v8_loaded.specs.Board.{Device, board}
use Rattle.v8_loaded.specs.Areas.{HasRoom}
use Rattle.v8_loaded.specs.Places.{entered_window}
use Rattle.v8_loaded.specs.Turns.{turn_at}
use Rattle.v8_loaded.specs.Users.{IsHandled}
use Rattle.v8_loaded.proofs.Handled.{begun}
use Rattle.v8_loaded.proofs.Words.{at_stack, stores_0, stores_7}
use Rattle.v8_routines.specs.Overflow.{Overflows, stack_pointer as spilled_pointer}
use Rattle.v8_routines.proofs.OverflowLaw as spilling
use Rattle.v8_marks.specs.Handlers.{OverflowMarks}
use Rattle.v8_marks.proofs.Reaching.{Reaches}
use Rattle.v8_marks.proofs.Handlers.{from_old, handler_marks, moves_there, ran_at}

module _ (n : ℕ) (g : Pages) (words : List ℕ) (mmu : MmuRegs) (x : World n Device) (k : ℕ) (o : Overflows n g words mmu x k) (room : HasRoom g (spilled_pointer n x.cpu)) where
  abbrev sp : ℕ
  sp = spilled_pointer n x.cpu

  handled : IsHandled n words mmu x k 5 sp true
  handled = (spilling.overflow_law n g words mmu x k o room).turns

  abbrev old : World n Device
  old = begun n x k 5 (2 ^ entered_window n x.cpu)

  begun_so : (next board n mmu x).1 ≡ old
  begun_so = spilling.begins_so n g words mmu x k o room

  ran : (j : ℕ) → j < 23 → (turn_at board n mmu j old).event ≡ Ran
  ran j small = ran_at n g words mmu x k o.user 5 sp true handled old begun_so j small

  first_stored : Reaches (Some (sp, true)) (turn_at board n mmu 11 (next board n mmu x).1).access
  unfolding page_word
  first_stored =
      let cpu = spilling.storing n g words mmu x k o room 0xF0001020 0xF0001024 in
      from_old n g words mmu x k o.user 5 sp true handled old begun_so 11 (address_of n cpu 14 (Immediate 0)) sp
      (spilling.stores_at n g words mmu x k o room 0 0xF0001020 0xF0001024 (omega arith) ∙ omega arith)
      (moves_there n g words mmu x k o.user 11 8 _ old cpu (store Double (at_stack 16 0)) (spilling.before_first n g words mmu x k o room)
      (omega arith) refl refl refl refl stores_0 (ran 11 (omega arith)))

  last_stored : Reaches (Some (sp + 56, true)) (turn_at board n mmu 18 (next board n mmu x).1).access
  unfolding page_word
  last_stored =
      let cpu = spilling.storing n g words mmu x k o room 0xF000103C 0xF0001040 in
      from_old n g words mmu x k o.user 5 sp true handled old begun_so 18 (address_of n cpu 14 (Immediate 56)) (sp + 56)
      (spilling.stores_at n g words mmu x k o room 56 0xF000103C 0xF0001040 (omega arith))
      (moves_there n g words mmu x k o.user 18 15 _ old cpu (store Double (at_stack 30 56)) (spilling.before_last n g words mmu x k o room)
      (omega arith) refl refl refl refl stores_7 (ran 18 (omega arith)))

pub overflow_marks : OverflowMarks
overflow_marks n g words mmu x k i o room less =
    handler_marks n g words mmu x k o.user i less 5 (spilled_pointer n x.cpu) true room.aligned (handled n g words mmu x k o room)
    (first_stored n g words mmu x k o room) (last_stored n g words mmu x k o room)

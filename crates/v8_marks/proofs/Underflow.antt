-- A RESTORE that traps: its handler's first and last double word, and what is marked.
use Rattle.std.proofs.Common.{◌≡◌, ℕ, ◌+◌, ◌^◌, ◌<◌, false, List, Some, refl, ◌∙◌, arith}
use Rattle.v8_core.specs.Operand.TheVariants.{Immediate}
use Rattle.v8_core.specs.Operations.{load}
use Rattle.v8_core.specs.Loading.TheVariants as loadings
use Rattle.v8_core.specs.MmuRegs.{MmuRegs}
use Rattle.v8_core.specs.Effects.{address_of}
use Rattle.v8_core.specs.declared.turn.Event.TheVariants.{Ran}
use Rattle.v8_core.specs.Accesses.{World}
use Rattle.v8_core.specs.Steps.{next}
use Rattle.v8_loaded.specs.Handlers.{page_word}
use Rattle.v8_loaded.specs.Layout.{Pages}
use Rattle.v8_loaded.specs.Board.{Device, board}
use Rattle.v8_loaded.specs.Areas.{HasFrame}
use Rattle.v8_loaded.specs.Turns.{turn_at}
use Rattle.v8_loaded.specs.Users.{IsHandled}
use Rattle.v8_loaded.proofs.Handled.{begun}
use Rattle.v8_loaded.proofs.Words.{at_stack, loads_0, loads_7}
use Rattle.v8_routines.specs.Underflow.{Underflows, refilled_window, stack_pointer as refilled_pointer}
use Rattle.v8_routines.proofs.UnderflowLaw as filling
use Rattle.v8_marks.specs.Handlers.{UnderflowMarks}
use Rattle.v8_marks.proofs.Reaching.{Reaches}
use Rattle.v8_marks.proofs.Handlers.{from_old, handler_marks, moves_there, ran_at}

module _ (n : ℕ) (g : Pages) (words : List ℕ) (mmu : MmuRegs) (x : World n Device) (k : ℕ) (o : Underflows n g words mmu x k) (area : HasFrame g x.memory.ram (refilled_pointer n x.cpu)) where
  abbrev sp : ℕ
  sp = refilled_pointer n x.cpu

  handled : IsHandled n words mmu x k 6 sp false
  handled = (filling.underflow_law n g words mmu x k o area).turns

  abbrev old : World n Device
  old = begun n x k 6 (2 ^ refilled_window n x.cpu)

  begun_so : (next board n mmu x).1 ≡ old
  begun_so = filling.begins_so n g words mmu x k o area

  ran : (j : ℕ) → j < 23 → (turn_at board n mmu j old).event ≡ Ran
  ran j small = ran_at n g words mmu x k o.user 6 sp false handled old begun_so j small

  first_loaded : Reaches (Some (sp, false)) (turn_at board n mmu 11 (next board n mmu x).1).access
  unfolding page_word
  first_loaded =
      let cpu = filling.loading n g words mmu x k o area 0 0xF00010A0 0xF00010A4 in
      from_old n g words mmu x k o.user 6 sp false handled old begun_so 11 (address_of n cpu 14 (Immediate 0)) sp
      (filling.loads_at n g words mmu x k o area 0 0 0xF00010A0 0xF00010A4 (omega arith) (omega arith) ∙ omega arith)
      (moves_there n g words mmu x k o.user 11 40 _ old cpu (load loadings.Double (at_stack 16 0)) (filling.before_first n g words mmu x k o area)
      (omega arith) refl refl refl refl loads_0 (ran 11 (omega arith)))

  last_loaded : Reaches (Some (sp + 56, false)) (turn_at board n mmu 18 (next board n mmu x).1).access
  unfolding page_word
  last_loaded =
      let cpu = filling.loading n g words mmu x k o area 14 0xF00010BC 0xF00010C0 in
      from_old n g words mmu x k o.user 6 sp false handled old begun_so 18 (address_of n cpu 14 (Immediate 56)) (sp + 56)
      (filling.loads_at n g words mmu x k o area 14 56 0xF00010BC 0xF00010C0 (omega arith) (omega arith))
      (moves_there n g words mmu x k o.user 18 47 _ old cpu (load loadings.Double (at_stack 30 56)) (filling.before_last n g words mmu x k o area)
      (omega arith) refl refl refl refl loads_7 (ran 18 (omega arith)))

pub underflow_marks : UnderflowMarks
underflow_marks n g words mmu x k i o area less =
    handler_marks n g words mmu x k o.user i less 6 (refilled_pointer n x.cpu) false area.room.aligned (handled n g words mmu x k o area)
    (first_loaded n g words mmu x k o area) (last_loaded n g words mmu x k o area)

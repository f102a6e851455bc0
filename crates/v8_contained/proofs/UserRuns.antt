-- User code of a contained board, as the laws of the handlers and of the services take it.
use Rattle.std.proofs.Common.{◌≡◌, ℕ, inl, inr, false, true, Option, Some, None, IsSome, sym, ◌∙◌}
use Rattle.v8_core.specs.MmuRegs.{MmuRegs}
use Rattle.v8_core.specs.Accesses.{World}
use Rattle.v8_loaded.specs.Layout.{Pages}
use Rattle.v8_loaded.specs.Board.{Device}
use Rattle.v8_loaded.proofs.Frames.{state_runs}
use Rattle.v8_contained.specs.Contained.{Contents, IsContained, IsUser}
use Rattle.v8_contained.specs.Laws.{UserRuns}

no_some : {A : Type 0} (o : Option A) → o ≡ None → IsSome o → ⊥
no_some None none some = let no : false ≡ true = some in cc
no_some (Some x) none some = cc

user_of : (n : ℕ) (g : Pages) (held : Contents) (mmu : MmuRegs) (x : World n Device) → IsContained n g held mmu x → x.memory.device.stopped ≡ None →
    x.cpu.control.error ≡ None → x.cpu.control.s ≡ false → IsUser n x.cpu
user_of n g held mmu x c running sane user = elim c.mode [
  | inl over ↦ elim over [ inl stopped ↦ absurd (no_some x.memory.device.stopped running stopped) | inr error ↦ absurd (no_some x.cpu.control.error sane error) ]
  | inr goes ↦ elim goes.mode [ inl u ↦ u | inr s ↦ absurd (let no : false ≡ true = sym user ∙ s.system in cc) ]
]

pub user_runs : UserRuns
user_runs n g held mmu x i c st running sane user straight place within =
    let u = user_of n g held mmu x c running sane user in
    state_runs n g mmu x st c.pages held.words i c.kept.loaded user u.traps u.table straight sane running place within

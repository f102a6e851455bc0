-- What a run gave that is told: a raw run, and where the instruction stands that trapped.
use Rattle.std.specs.Prelude.{ℕ, ◌≡◌, List}
use Rattle.sbx_image.specs.Parts.{Parts}
use Rattle.v8_core.specs.Windows.{reg_of}
use Rattle.v8_board.specs.Contains.{Keeps}
use Rattle.v8_board.specs.Marks.{page_use_of}
use Rattle.v8_board.specs.Runs.{IsRun as IsBoardRun, outcome_of}
use Rattle.v8_board.specs.Seen.{State}
use Rattle.sbx_raw.specs.Runs.{IsRaw}
use Rattle.inspect_run.specs.declared.run.Run.{Run}

-- a raw run of the image on so many windows, up to the limit, and %l1 (register 17) of the window in which it ended
pub record IsRun (n : ℕ) (p : Parts) (input : List ℕ) (limit : ℕ) (told : Run) : Type 0 where
  pub raw : IsRaw n p input limit told.raw
  pub place : told.trapped_at ≡ reg_of n raw.end.world.cpu.regs 17

-- what a state shows of a run that ended there
pub record IsToldOf (n : ℕ) (end : State n) (told : Run) : Type 0 where
  pub outcome : told.raw.outcome ≡ outcome_of n end
  pub output : told.raw.output.items ≡ end.world.memory.device.output
  pub pages : told.raw.pages ≡ page_use_of end.world.memory.ram
  pub fault_status : told.raw.fault_status ≡ end.world.cpu.control.status
  pub place : told.trapped_at ≡ reg_of n end.world.cpu.regs 17

-- a board's run from one state to the other, and what it shows
pub record IsRunOf (n limit : ℕ) (old new : State n) (told : Run) : Type 0 where
  pub run : IsBoardRun n limit old new
  pub kept : Keeps n old new
  pub shown : IsToldOf n new told

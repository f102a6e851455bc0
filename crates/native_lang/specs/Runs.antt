-- Steps and runs of a program.
use Rattle.std.specs.Prelude.{ℕ, zero, suc, ◌+◌, ◌-◌, ◌==◌, List, [], ◌++◌, length, replicate, slice_get, slice_index}
use Rattle.std.specs.Prelude.{Option, Some, None, if◌then◌else◌}
use Rattle.sbx_flat.specs.Traffic.{no_traffic}
use Rattle.native_lang.specs.declared.stmt.Stmt.{Stmt}
use Rattle.native_lang.specs.declared.program.ProgramBlock.{ProgramBlock}
use Rattle.native_lang.specs.declared.program.BlockEnd.{BlockEnd}
use Rattle.native_lang.specs.declared.program.BlockEnd.TheVariants.{Goto, If, Exit, Dispatch}
use Rattle.native_lang.specs.declared.program.NativeProgram.{NativeProgram}
use Rattle.native_lang.specs.declared.run.ProgramPoint.{ProgramPoint}
use Rattle.native_lang.specs.declared.run.ProgramStep.{ProgramStep}
use Rattle.native_lang.specs.declared.run.ProgramStep.TheVariants as stepped
use Rattle.native_lang.specs.Arms.{arm_of}
use Rattle.native_lang.specs.Values.{value}
use Rattle.native_lang.specs.World.{World, does}

-- a point, At (label, index), with its world; a run's end, with its exit word; or what has no meaning
pub data Turn : Type 0 where
  Goes : (label at : ℕ) → World → Turn
  Over : ℕ → World → Turn
  Lost : Turn

-- behind a statement
abbrev pub onto : ℕ → ℕ → Option World → Turn
onto label at None = Lost
onto label at (Some w) = Goes label (at + 1) w

abbrev pub dispatched : Option ℕ → World → Turn
dispatched None w = Lost
dispatched (Some label) w = Goes label 0 w

-- how a block ends
abbrev pub ends : BlockEnd → World → Turn
ends (Goto label) w = Goes label 0 w
ends (If e first second) w = if value w.variables e == 0 then Goes second 0 w else Goes first 0 w
ends (Exit e) w = Over (value w.variables e) w
ends (Dispatch x arms) w = dispatched (arm_of arms.items (slice_index w.variables x)) w

abbrev pub step_of : ℕ → ℕ → ℕ → Option Stmt → BlockEnd → World → Turn
step_of n label at None end w = ends end w
step_of n label at (Some s) end w = onto label at (does n s w)

abbrev pub step_in : ℕ → ℕ → ℕ → Option ProgramBlock → World → Turn
step_in n label at None w = Lost
step_in n label at (Some block) w = step_of n label at (slice_get block.statements.items at) block.end w

-- a step of a program: a statement, or the end of a block
abbrev pub step : NativeProgram → ℕ → ℕ → ℕ → World → Turn
step p n label at w = step_in n label at (slice_get p.blocks.items label) w

-- a run is their repetition, as a flat run is: so many steps, or fewer where there is an end
abbrev pub onward : (ℕ → ℕ → World → Turn) → Turn → Turn
onward next (Goes label at w) = next label at w
onward next (Over word w) = Over word w
onward next Lost = Lost

abbrev pub run : NativeProgram → ℕ → ℕ → ℕ → ℕ → World → Turn
run p n zero label at w = Goes label at w
run p n (suc k) label at w = onward (run p n k) (step p n label at w)

-- the data's size and first bytes: all else is 0
abbrev pub start : NativeProgram → List ℕ → World
start p input =
    record {
      variables = replicate 256 0;
      saved = [];
      block = p.data.items ++ replicate (524288 - length p.data.items) 0;
      input = input;
      output = [];
      counts = no_traffic;
    }

-- what the interpreter says of a step or a run
abbrev pub turn_of : ProgramStep → ProgramPoint → World → Turn
turn_of stepped.On point w = Goes point.label point.at w
turn_of (stepped.Over word) point w = Over word w
turn_of stepped.Lost point w = Lost

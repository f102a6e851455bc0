-- What a board is seen as: its processor, RAM and device, the MMU's registers, and the counts of its run.
use Rattle.std.specs.Prelude.{ℕ, List, Option, Some, None}
use Rattle.v8_core.specs.PortFault.{PortFault}
use Rattle.v8_core.specs.Stop.{Stop}
use Rattle.v8_core.specs.Stop.TheVariants as stops
use Rattle.v8_core.specs.MmuRegs.{MmuRegs}
use Rattle.v8_core.specs.declared.turn.Event.{Event}
use Rattle.v8_core.specs.declared.turn.Turn.{Turn}
use Rattle.v8_core.specs.Accesses.{World}
use Rattle.v8_core.specs.Steps.{next}
use Rattle.v8_contained.specs.Board.{Device, board}
use Rattle.v8_board.specs.declared.outcome.Counts.{Counts}
use Rattle.v8_board.specs.declared.outcome.Ending.{Ending}
use Rattle.v8_board.specs.declared.outcome.Ending.TheVariants as endings
use Rattle.v8_board.specs.Counting.{counts_after}

-- the state of a board of n windows
pub record State (n : ℕ) : Type 0 where
  pub world : World n Device
  pub mmu : MmuRegs
  pub counts : Counts

-- with how often its port has failed and was called, and the fault that the port answered last
pub record Seen (n : ℕ) : Type 0 where
  pub state : State n
  pub failed : ℕ
  pub calls : ℕ
  pub fault : PortFault

-- with a port that has this input left, was given this output, has failed and was called so often, and answered this
-- fault last
abbrev pub with_port : {n : ℕ} → Seen n → List ℕ → List ℕ → ℕ → ℕ → PortFault → Seen n
with_port s i o f k p =
    let device = record s.state.world.memory.device { input = i; output = o } in
    record {
      state = record s.state {
        world =
            record s.state.world { memory = record s.state.world.memory { device = device } };
      };
      failed = f;
      calls = k;
      fault = p;
    }

-- ---- ends

abbrev pub error_ending : Option ℕ → Option Ending
error_ending (Some t) = Some (endings.ErrorMode t)
error_ending None = None

abbrev pub ending_by : Option Stop → ℕ → Option ℕ → Option Ending
ending_by (Some (stops.Exit x)) t error = Some (endings.Exit x)
ending_by (Some stops.Trapped) t error = Some (endings.Trapped t)
ending_by None t error = error_ending error

-- how the machine has ended: with an exit status, by a trap that no handler serves (TBR tells which), or in error mode
unfoldable pub ending_of : (n : ℕ) → World n Device → Option Ending
ending_of n w = ending_by w.memory.device.stopped w.cpu.control.tt w.cpu.control.error

-- a turn of a machine that has ended counts nothing
abbrev pub counts_unless : Option Ending → Event → Counts → Counts
counts_unless None event c = counts_after event c
counts_unless (Some e) event c = c

-- one machine turn
unfoldable pub turned : (n : ℕ) → State n → Turn × State n
turned n s =
    let t = next board n s.mmu s.world in
    (t.0, record s { world = t.1; counts = counts_unless (ending_of n s.world) t.0.event s.counts })

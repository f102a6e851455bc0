use Rattle.std.proofs.Common.{◌≡◌, length}
use Rattle.v8_map.specs.declared.TheConstants.{RAM}
use Rattle.leon_start.proofs.Moving.{AreMoved}
use Rattle.leon_start.proofs.start.move_ram.Given as goal

-- the words so far were moved
abbrev pub invariant-loop-number : goal.invariant-loop-number
invariant-loop-number g l = record {
  size : length l.ram ≡ RAM;
  words : AreMoved l.place l.own l.board.state.world.memory.ram l.ram l.number;
}

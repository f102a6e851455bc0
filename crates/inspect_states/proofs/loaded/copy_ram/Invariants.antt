use Rattle.std.proofs.Common.{◌≡◌, ◌*◌, length, take}
use Rattle.v8_map.specs.declared.TheConstants.{RAM}
use Rattle.inspect_states.specs.Told.{device_of}
use Rattle.inspect_states.proofs.loaded.copy_ram.Given as goal

-- the words so far were copied
abbrev pub invariant-loop-number : goal.invariant-loop-number
invariant-loop-number g l = record {
  size : length l.memory.ram ≡ RAM;
  copied : take (4 * l.number) l.memory.ram ≡ take (4 * l.number) l.board.state.world.memory.ram;
  device : device_of l.memory ≡ device_of l.initial.memory;
}

use Rattle.std.proofs.Common.{◌≡◌, length}
use Rattle.v8_memory.specs.Placing.{HasBytesOf}
use Rattle.v8_memory.proofs.ram.Ram.set_bytes.Given as goal

abbrev pub invariant-loop-k : goal.invariant-loop-k
invariant-loop-k l = record { placed : HasBytesOf l.at l.bytes l.k l.initial.self l.self; size : length l.self ≡ 0x100000 }

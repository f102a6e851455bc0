use Rattle.std.proofs.Common.{◌≡◌, ◌+◌, ◌-◌, ◌*◌, ◌≤◌}
use Rattle.native_lang.specs.Runs.{run}
use Rattle.native_lang.specs.World.{world_of}
use Rattle.native_lang.proofs.state.Interpreter.run.Given as goal

abbrev pub invariant-loop-k : goal.invariant-loop-k
invariant-loop-k l = record {
  run : run l.program l.initial.self.windows (l.limit - l.k) l.point.label l.point.at (world_of l.self) ≡
      run l.program l.initial.self.windows l.limit l.initial.point.label l.initial.point.at (world_of l.initial.self);
  windows : l.self.windows ≡ l.initial.self.windows;
  turns : l.self.traffic.turns ≤ l.initial.self.traffic.turns + l.k * 65535;
}

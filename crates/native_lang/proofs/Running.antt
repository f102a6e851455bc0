-- A run by one step more.
use Rattle.std.proofs.Common.{◌≡◌, ℕ, suc, ◌+◌, ◌-◌, ◌<◌, ap, arith}
use Rattle.native_lang.specs.declared.program.NativeProgram.{NativeProgram}
use Rattle.native_lang.specs.Runs.{onward, run, step}
use Rattle.native_lang.specs.World.{World}

pub run_on : (p : NativeProgram) (n m k label at : ℕ) (w : World) → k < m → run p n (m - k) label at w ≡ onward (run p n (m - (k + 1))) (step p n label at w)
run_on p n m k label at w less = let e : m - k ≡ suc (m - (k + 1)) = omega (arith, less) in ap (λ j. run p n j label at w) e

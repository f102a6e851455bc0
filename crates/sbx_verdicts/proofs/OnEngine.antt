-- What a run on the fast flat machine answers, beside a line.
use Rattle.std.proofs.Common.{◌≡◌, ◌↔◌, ℕ, Bool, IsTrue, List, subst}
use Rattle.sbx_image.specs.Parts.{Parts}
use Rattle.engine_runs.specs.Answer.{IsAnswer}
use Rattle.engine_runs.specs.declared.runs.FlatFinished.{FlatFinished}
use Rattle.sbx_verdicts.specs.Engine.{EngineRunsSo, IsRun}
use Rattle.sbx_verdicts.specs.declared.runs.Run.{Run}

-- the run that was compared is the machine's
pub engine_so : (parts : Parts) (run : Run) (input : List ℕ) (finished : FlatFinished) (same : Bool)
    → input ≡ run.input.items → IsAnswer parts run.windows input finished → (IsTrue same ↔ IsRun finished run) → IsTrue same → EngineRunsSo parts run
engine_so parts run input finished same all answer iff t = (finished, subst (λ (bytes : List ℕ). IsAnswer parts run.windows bytes finished) all answer, iff.0 t)

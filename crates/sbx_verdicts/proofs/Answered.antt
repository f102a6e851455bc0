-- What the verifier and a run on a board answer, beside a line.
use Rattle.std.proofs.Common.{◌≡◌, ◌↔◌, ℕ, Bool, IsTrue, List, Result, Ok, IfOk, subst, sym}
use Rattle.sbx_image.specs.Parts.{Parts}
use Rattle.sbx_image.specs.Reading.{reading}
use Rattle.sbx_rules.specs.Verdicts.{Checked}
use Rattle.sbx_run.specs.declared.runner.Finished.{Finished}
use Rattle.sbx_run.specs.Answer.{IsAnswer}
use Rattle.sbx_run.specs.RunFault.{RunFault}
use Rattle.sbx_verdicts.specs.Runs.{BoardRunsSo, IsRun}
use Rattle.sbx_verdicts.specs.Verdicts.{IsVerdict}
use Rattle.sbx_verdicts.specs.declared.runs.Run.{Run}
use Rattle.sbx_verdicts.specs.declared.verdicts.Verdict.TheVariants.{Accepted}

-- the image that was read is the accepted one
pub accepted_of : (bytes : List ℕ) (image parts : Parts) → reading bytes ≡ Ok image → (parts ≡ image) × Checked image → IsVerdict bytes (Accepted parts)
accepted_of bytes image parts read checked = subst (λ p. IsVerdict bytes (Accepted p)) (sym checked.0) (read, checked.1)

-- the run that was compared is the board's
pub runs_so : (parts : Parts) (run : Run) (input : List ℕ) (reply : Result Finished RunFault) (finished : Finished) (same : Bool)
    → input ≡ run.input.items → IfOk reply (IsAnswer parts run.windows input) → reply ≡ Ok finished
    → (IsTrue same ↔ IsRun finished run) → IsTrue same → BoardRunsSo parts run
runs_so parts run input reply finished same all answer is iff t =
    let found : IsAnswer parts run.windows input finished = subst (λ r. IfOk r (IsAnswer parts run.windows input)) is answer in
    (finished, subst (λ bytes. IsAnswer parts run.windows bytes finished) all found, iff.0 t)

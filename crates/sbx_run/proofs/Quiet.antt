-- Where there are windows enough for the declared depth, a run that ends as the flat ones do overflows none and underflows none.
use Rattle.std.proofs.Common.{ℕ, List, ◌∙◌}
use Rattle.v8_board.specs.declared.outcome.Outcome.{Outcome}
use Rattle.sbx_image.specs.Parts.{Parts}
use Rattle.sbx_flat.specs.Runs.{AreBytes}
use Rattle.sbx_verify.specs.Law.{DepthIsEnough}
use Rattle.sbx_run.specs.Answer.{IsFlatEnd, KeepsItsDepth}

pub keeps_its_depth : (parts : Parts) (n : ℕ) (input output : List ℕ) (status : ℕ) (outcome : Outcome) → DepthIsEnough parts → AreBytes input →
    IsFlatEnd parts n input output status outcome → KeepsItsDepth parts n outcome
keeps_its_depth parts n input output status outcome depth bytes flat version enough =
    let none = depth version n enough input output status flat.path bytes flat.behaves in
    (flat.overflows ∙ none.0, flat.underflows ∙ none.1)

use Rattle.std.proofs.Common.{◌≡◌, List, inr, sym, ap, ◌∙◌}
use Rattle.sbx_asm.specs.Items.{Item}
use Rattle.sbx_asm.specs.Rules.{faults_of, least_of}
use Rattle.sbx_asm.specs.Images.{source_image}
use Rattle.sbx_asm.specs.Kept.{worth}
use Rattle.sbx_asm.proofs.Judging.{all_told, is_told, is_judged, gives}
use Rattle.sbx_asm.proofs.assembling.image_of.Goals as goal

pub returns-in-Some : goal.returns-in-Some
returns-in-Some c = λ source same.
    let lines : List Item = c.args.lines.now in
    let told : c.in_ok-checked.checked.fault ≡ least_of (faults_of lines)
    = all_told lines (worth c.in_ok-survey.survey.table) c.least_of-repeated.result c.in_ok-checked.checked.fault c.in_ok-survey.ensures.0
    (c.least_of-repeated.ensures ∙ ap least_of (c.as_slice.ensures.value ∙ c.in_ok-survey.ensures.1)) c.in_ok-checked.ensures.0 in
    inr (is_told source lines same c.in-Some.fault (sym c.in-Some.is ∙ told))

pub returns : goal.returns
returns c = λ source same.
    let lines : List Item = c.args.lines.now in
    let told : c.in_ok-checked.checked.fault ≡ least_of (faults_of lines)
    = all_told lines (worth c.in_ok-survey.survey.table) c.least_of-repeated.result c.in_ok-checked.checked.fault c.in_ok-survey.ensures.0
    (c.least_of-repeated.ensures ∙ ap least_of (c.as_slice.ensures.value ∙ c.in_ok-survey.ensures.1)) c.in_ok-checked.ensures.0 in
    let image = c.in_ok-parts-in-None.ensures c.in_ok-survey.ensures.0 c.in_ok-checked.ensures.1 in
    gives c.judged.result (source_image source) (is_judged source lines same c.in_ok-parts-in-None.parts (sym c.in-None.is ∙ told) image ∙ sym c.judged.ensures)

use Rattle.sbx_asm.proofs.Wholeness.{are_an_image, two_of_the_whole}
use Rattle.sbx_asm.proofs.laws.lines_without_faults_are_an_image.Goals as goal

pub returns-clause-image : goal.returns-clause-image
returns-clause-image c = are_an_image

pub returns-clause-whole : goal.returns-clause-whole
returns-clause-whole c = two_of_the_whole

use Rattle.sbx_sound.proofs.Examples.{examples_are_safe}
use Rattle.sbx_sound.proofs.laws.examples_are_safe.Goals as goal

pub returns : goal.returns
returns c = examples_are_safe

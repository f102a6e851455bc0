use Rattle.std.proofs.Common.{refl}
use Rattle.sbx_image.specs.Regions.{holds}
use Rattle.sbx_image_tests.proofs.examples.regions_that_abut_are_two.Goals as goal

pub returns-clause-rights : goal.returns-clause-rights
returns-clause-rights c = λ a b ha hb. rw (ha, hb) refl

pub returns-clause-first : goal.returns-clause-first
unfolding holds
returns-clause-first c = λ a b ha hb. rw ha refl

pub returns-clause-across : goal.returns-clause-across
unfolding holds
returns-clause-across c = λ a b ha hb. rw ha refl

pub returns-clause-second : goal.returns-clause-second
unfolding holds
returns-clause-second c = λ a b ha hb. rw (ha, hb) refl

pub returns-clause-read_only : goal.returns-clause-read_only
unfolding holds
returns-clause-read_only c = λ a b ha hb. rw ha refl

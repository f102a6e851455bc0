use Rattle.std.proofs.Common.{refl, arith}
use Rattle.std.proofs.lemmas.Option.{slice_get_past}
use Rattle.sbx_image.specs.Regions.{holds}
use Rattle.sbx_image_tests.proofs.examples.the_rest_of_a_page_is_no_data.Goals as goal

pub returns-clause-held : goal.returns-clause-held
unfolding holds
returns-clause-held c = λ a b ha hb. rw ha refl

pub returns-clause-past : goal.returns-clause-past
unfolding holds
returns-clause-past c = λ a b ha hb. rw ha refl

pub returns-clause-rest : goal.returns-clause-rest
unfolding holds
returns-clause-rest c = λ a b ha hb. rw ha refl

pub returns-clause-next : goal.returns-clause-next
unfolding holds
returns-clause-next c = λ a b ha hb. rw (ha, hb) refl

pub returns-clause-byte : goal.returns-clause-byte
returns-clause-byte c = λ a b ha hb. rw (ha, slice_get_past a 8 (omega (arith, ha))) refl

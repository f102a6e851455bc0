use Rattle.std.proofs.Common.{arith}
use Rattle.std.proofs.lemmas.Grind.{common_steps}
use Rattle.v8_forms.specs.Text.{text_of}
use Rattle.v8_forms.specs.Forms.{form_of}
use Rattle.v8_forms.proofs.Tables.{native_is_short}
use Rattle.v8_forms.proofs.printing.print_instr.Goals as goal

pub push_form-requires-clause-room : goal.push_form-requires-clause-room
push_form-requires-clause-room c = native_is_short c.encode-word.result (form_of c.in-Some.row) c.in-Some.ensures

pub returns-in-Some : goal.returns-in-Some
unfolding text_of
returns-in-Some c = grind (arith, common_steps)

pub push_word-requires : goal.push_word-requires
unfolding text_of
push_word-requires c = grind (arith, common_steps)

pub returns-in-None : goal.returns-in-None
unfolding text_of
returns-in-None c = grind (arith, common_steps)

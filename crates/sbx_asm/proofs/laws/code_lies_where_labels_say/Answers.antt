use Rattle.sbx_asm.proofs.CodeLying.{code_lies, functions_begin}
use Rattle.sbx_asm.proofs.laws.code_lies_where_labels_say.Goals as goal

pub returns-clause-words : goal.returns-clause-words
returns-clause-words c = code_lies

pub returns-clause-functions : goal.returns-clause-functions
returns-clause-functions c = functions_begin

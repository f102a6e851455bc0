use Rattle.sbx_asm.proofs.Meanings.{blank_says}
use Rattle.sbx_asm.proofs.Numbering.{numbers_show, blank_changes}
use Rattle.sbx_asm.proofs.laws.blank_lines_change_numbers_alone.Goals as goal

pub returns-clause-nothing : goal.returns-clause-nothing
returns-clause-nothing c = blank_says

pub returns-clause-anywhere : goal.returns-clause-anywhere
returns-clause-anywhere c = blank_changes

pub returns-clause-numbers : goal.returns-clause-numbers
returns-clause-numbers c = numbers_show

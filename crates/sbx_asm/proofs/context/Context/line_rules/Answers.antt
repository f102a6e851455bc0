use Rattle.std.proofs.Common.{◌≡◌, Ok, sym, ap, ◌∙◌}
use Rattle.sbx_directives.specs.declared.directive.Statement.TheVariants as statements
use Rattle.sbx_asm.specs.Items.{Said}
use Rattle.sbx_asm.specs.Addresses.{code_length}
use Rattle.sbx_asm.specs.Rules.{line_rules}
use Rattle.sbx_asm.specs.Kept.{noted}
use Rattle.sbx_asm.proofs.context.Context.line_rules.Goals as goal

pub returns-in-Ok-Malformed : goal.returns-in-Ok-Malformed
returns-in-Ok-Malformed c = λ values before h v s.
    let said : Ok (statements.Malformed c.in-Ok-Malformed.keyword c.in-Ok-Malformed.field-0-1) ≡ c.args.line.now.said = cc in
    c.malformed_rules.ensures values before c.args.line.now c.in-Ok-Malformed.field-0-1 h
    ∙ ap (λ (x : Said). noted (line_rules values before c.args.line.now x) c.args.notes) said

pub returns-in-Ok-Instruction : goal.returns-in-Ok-Instruction
returns-in-Ok-Instruction c = λ values before h v s.
    let said : Ok statements.Instruction ≡ c.args.line.now.said = cc in
    c.instruction_rules.ensures values before c.args.line.now h (c.code_length.ensures ∙ ap (λ (x : Said). code_length (record c.args.line.now { said = x })) (sym said)) s
    ∙ ap (λ (x : Said). noted (line_rules values before c.args.line.now x) c.args.notes) said

use Rattle.std.proofs.Common.{◌≡◌, sym, ap, ◌∙◌}
use Rattle.std.specs.Prelude.{nat_lt}
use Rattle.std.specs.List.{list_any}
use Rattle.sbx_directives.specs.declared.directive.Directive.{Directive}
use Rattle.sbx_asm.specs.declared.context.Context.{Context}
use Rattle.sbx_asm.specs.declared.fault.Cause.TheVariants as causes
use Rattle.sbx_asm.specs.Items.{is_region}
use Rattle.sbx_asm.specs.Rules.{when, directive_rules}
use Rattle.sbx_asm.specs.Kept.{noted}
use Rattle.sbx_asm.proofs.Noting.{some_counted}
use Rattle.sbx_asm.proofs.context.Context.directive_rules.Goals as goal

pub returns-in-Data : goal.returns-in-Data
returns-in-Data c = λ values before i h fault.
    let some : nat_lt 0 c.args.self.totals.regions ≡ list_any is_region before = ap (λ (k : Context). nat_lt 0 k.totals.regions) h ∙ some_counted is_region before in
    c.with_where.ensures
    ∙ (λ j. noted (when (some j) causes.Directive) c.args.notes)
    ∙ ap (λ (d : Directive). noted (directive_rules values before i d) c.args.notes) (sym c.in-Data.is)

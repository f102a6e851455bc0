use Rattle.std.proofs.Common.{◌≡◌, ℕ, ap, ◌∙◌}
use Rattle.std.specs.Prelude.{nat_lt}
use Rattle.sbx_asm.specs.declared.fault.Cause.TheVariants as causes
use Rattle.sbx_asm.specs.declared.context.Context.{Context}
use Rattle.sbx_asm.specs.Rules.{Values, when, line_rules}
use Rattle.sbx_asm.specs.Kept.{worth, noted}
use Rattle.sbx_asm.proofs.Noting.{all_noted}
use Rattle.sbx_asm.proofs.checking.CheckedLines.add_line.Goals as goal

pub returns : goal.returns
returns c = λ before h.
    let values : Values = worth c.args.table.now in
    let here = ap (λ (k : Context). k.place.next_word) h in
    let words = c.in_ok-syntax_fault.ensures before c.args.behind.now here in
    let numbered =
    λ (n : ℕ) (m : ℕ). noted (line_rules values before c.args.line.now c.args.line.now.said)
    (noted (when (nat_lt 1000000 m) causes.Limit) (record { line = n; fault = c.args.self.now.fault })) in
    let rules : c.line_rules-notes.result ≡ numbered c.args.line.now.number c.args.line.now.number
    = c.line_rules-notes.ensures values before h c.value_fault-value_fault.ensures words.0
    ∙ ap (noted (line_rules values before c.args.line.now c.args.line.now.said)) c.with_where-notes.ensures
    ∙ (λ j. numbered (c.number.ensures j) (c.number-2.ensures j)) in (
      c.acts.ensures values c.value_fault-value_fault.ensures,
      all_noted values before c.args.line.now c.args.behind.now c.args.self.now.fault c.line_rules-notes.result c.with_where-notes-2.result
          c.is_empty_region-is_empty.result c.is_idle_block-is_idle.result rules c.is_empty_region-is_empty.ensures (c.is_idle_block-is_idle.ensures before h)
          (c.with_where-notes-2.ensures ∙ ap (noted (when c.is_idle_block-is_idle.result causes.Directive)) c.with_where.ensures),
      words.1,
    )

use Rattle.std.proofs.Common.{inl, inr, rules}
use Rattle.sbx_asm.specs.Items.{lines_of}
use Rattle.fit_kept.proofs.ByLines.{takes_kept}
use Rattle.fit_kept.proofs.keeping.left_behind.Goals.{then-eq-via-then-eq, then-eq-via-else-eq+then-fills}
use Rattle.fit_kept.proofs.keeping.left_behind.Goals as goal

pub returns-then-eq : goal.returns-then-eq
returns-then-eq c =
    takes_kept (lines_of c.args.source.now) c.first_line.result.0.now c.args.line.now (lines_of c.first_line.result.1.now) c.first_line.ensures.lines
    (elim c.then-eq.branch [
      | then-eq-via-then-eq w ↦ inl (search rules)
      | then-eq-via-else-eq+then-fills w ↦ inr (search rules)
    ])

use Rattle.std.proofs.Common.{subst, rules}
use Rattle.sbx_image.specs.Parts.{Parts}
use Rattle.geyserpan.specs.EngineReports.{HasReport, HasRun}
use Rattle.geyserpan.proofs.engine_exports.geyserpan_engine_run.Goals as goal

pub returns-in-Some-clause-ran : goal.returns-in-Some-clause-ran
returns-in-Some-clause-ran c = λ done. (
  c.in-Some.kept,
  search rules,
  subst (λ (parts : Parts). HasRun parts c.in-Some.kept.terms.windows c.args.input.now c.args.room.now c.run_engine_into.new.room c.run_engine_into.new.report)
      c.opened.ensures (c.run_engine_into.ensures.ran done),
  c.run_engine_into.ensures.granted done,
)

pub returns-in-Some-clause-longer : goal.returns-in-Some-clause-longer
returns-in-Some-clause-longer c = λ is. let (told, more) = c.run_engine_into.ensures.longer is in (
  c.in-Some.kept,
  search rules,
  subst (λ (parts : Parts). HasReport parts c.in-Some.kept.terms.windows c.args.input.now c.run_engine_into.new.report) c.opened.ensures told,
  more,
)

pub returns-in-Some-clause-small : goal.returns-in-Some-clause-small
returns-in-Some-clause-small c = λ is. let (told, more) = c.run_engine_into.ensures.small is in (
  (
    c.in-Some.kept,
    search rules,
    subst (λ (parts : Parts). HasReport parts c.in-Some.kept.terms.windows c.args.input.now c.run_engine_into.new.report) c.opened.ensures told,
  ),
  more,
)

use Rattle.std.proofs.Common.{rules, ◌∙◌}
use Rattle.cmd_filing.proofs.Fronts.{left_early, object_left}
use Rattle.std.proofs.lemmas.Result.{err_from_is_err_and}
use Rattle.cmd_filing.specs.Files.{BeginsObject}
use Rattle.cmd_filing.proofs.assembling.assemble_file.Goals as goal

pub returns-in-Ok-clause-assembled : goal.returns-in-Ok-clause-assembled
returns-in-Ok-clause-assembled g c = search rules

pub returns-in-Ok-clause-left : goal.returns-in-Ok-clause-left
returns-in-Ok-clause-left g c =
    object_left (g.F.Read.remaining c.args.file.now) (g.O.Write.contents c.args.out.now) (g.O.Write.contents c.store.new.out) c.in_ok-image.image c.as_slice.result.now
    c.store.result c.in_ok-image.ensures.image (c.as_slice.ensures.value ∙ c.in-Ok.ensures) c.store.ensures.stop c.store.ensures.part

pub returns-in_err-image-clause-left : goal.returns-in_err-image-clause-left
returns-in_err-image-clause-left g c =
    let p = err_from_is_err_and c.from_residual.result c.from_residual.ensures.1 in
    rw (p.1, p.2) (left_early BeginsObject (g.F.Read.remaining c.args.file.now) (g.O.Write.contents c.args.out.now) c.in_err-image.field-0.0 c.in_err-image.ensures.early)

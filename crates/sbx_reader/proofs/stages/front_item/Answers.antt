use Rattle.std.proofs.Common.{◌≡◌, ap, ◌∙◌}
use Rattle.std.proofs.lemmas.Result.{err_from_is_err_and}
use Rattle.sbx_image.specs.Reading.{shape_bytes}
use Rattle.sbx_reader.proofs.Resuming.{front_reads, front_ok, front_err, shapes_err, whole_ok, whole_err}
use Rattle.sbx_reader.proofs.stages.front_item.Goals as goal

pub returns-in_err-header : goal.returns-in_err-header
returns-in_err-header c =
    let p = err_from_is_err_and c.from_residual.result c.from_residual.ensures.1 in
    rw (p.1, p.2) (whole_err _ _ _ front_reads c.args.bytes.now _ (λ kept. front_err _ _ (c.in_err-header.ensures.reads kept)))

pub returns-in_err-shapes : goal.returns-in_err-shapes
returns-in_err-shapes c =
    let p = err_from_is_err_and c.from_residual-in_err-shapes.result c.from_residual-in_err-shapes.ensures.1 in
    rw (p.1, p.2) (whole_err _ _ _ front_reads c.args.bytes.now _ (λ kept. shapes_err _ _ _ _ c.in_ok-header.ensures.reads (c.in_err-shapes.ensures.reads kept)))

pub returns : goal.returns
returns c =
    let counted : c.shape_bytes.result ≡ shape_bytes c.in_ok-shapes.shapes.items = c.shape_bytes.ensures ∙ ap shape_bytes c.as_slice.ensures.value in
    rw counted (whole_ok _ _ _ front_reads c.args.bytes.now _ _ _ (front_ok _ _ _ _ _ c.in_ok-header.ensures.reads c.in_ok-shapes.ensures.reads) c.read_of.ensures)

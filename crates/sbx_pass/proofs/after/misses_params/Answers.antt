use Rattle.std.proofs.Common.{◌<◌, ℕ, Option, subst, length}
use Rattle.std.specs.Prelude.{IfSome}
use Rattle.sbx_known.proofs.InOrder.{first_block}
use Rattle.sbx_pass.proofs.after.misses_params.Goals as goal

pub keeps_cells-requires : goal.keeps_cells-requires
keeps_cells-requires c =
    let within = subst (λ (o : Option ℕ). IfSome o (λ g. g < length c.args.image.now.functions)) c.in-Some.is c.requires.called_is in
    (within, first_block c.args.image.now c.requires.keeps c.in-Some.callee within)

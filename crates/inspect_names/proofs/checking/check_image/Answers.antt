use Rattle.inspect_names.proofs.Judging.{accepted_by}
use Rattle.inspect_names.proofs.checking.check_image.Goals as goal

pub returns : goal.returns
returns c = (
  accepted_by c.args.source.now c.args.image c.in_ok-found.found c.requires c.in_ok-found.ensures.accepted c.in-None.is,
  c.new.ensures.items,
)

use Rattle.inspect_names.proofs.Judging.{faulty_by}
use Rattle.inspect_names.proofs.checking.check_faults.Goals as goal

pub returns : goal.returns
returns c = faulty_by c.args.source.now c.args.faults.now c.in_ok-findings.findings.items c.requires c.in_ok-findings.ensures

use Rattle.inspect_run.proofs.run.told_of.Goals as goal

pub returns-in-Ok-clause-told : goal.returns-in-Ok-clause-told
returns-in-Ok-clause-told g c = record {
  outcome = c.outcome-outcome.ensures;
  output = rw (c.in-Ok.ensures.items, c.new-output.ensures.items, c.output.ensures) c.port.ensures.output;
  pages = c.page_use-pages.ensures;
  fault_status = c.fault_status-fault_status.ensures;
  place = c.reg-trapped_at.ensures;
}

pub port-requires : goal.port-requires
port-requires g c = assumption

pub outcome-outcome-requires : goal.outcome-outcome-requires
outcome-outcome-requires g c = assumption

pub page_use-pages-requires : goal.page_use-pages-requires
page_use-pages-requires g c = assumption

pub fault_status-fault_status-requires : goal.fault_status-fault_status-requires
fault_status-fault_status-requires g c = assumption

pub reg-trapped_at-requires : goal.reg-trapped_at-requires
reg-trapped_at-requires g c = assumption

pub returns-in-Err-clause-fault : goal.returns-in-Err-clause-fault
returns-in-Err-clause-fault g c = assumption

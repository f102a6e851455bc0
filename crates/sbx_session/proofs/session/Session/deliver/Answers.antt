use Rattle.sbx_session.proofs.Stepping.{all_delivered}
use Rattle.sbx_session.proofs.session.Session.deliver.Goals as goal

pub returns-clause-goes : goal.returns-clause-goes
returns-clause-goes g c = all_delivered g.row.N c.args.self.now c.deliver.new.board c.args.room.now c.deliver.new.room c.args.written c.deliver.result c.deliver.ensures.taken c.deliver.ensures.put

pub returns-clause-more : goal.returns-clause-more
returns-clause-more g c = c.deliver.ensures.more

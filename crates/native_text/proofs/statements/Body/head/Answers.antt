use Rattle.native_text.proofs.Blocks.{head-text}
use Rattle.native_text.proofs.statements.Body.head.Goals as goal

pub returns-in_ok-put-clause-text : goal.returns-in_ok-put-clause-text
returns-in_ok-put-clause-text c =
    rw c.if-is_head.true
    (head-text c.args.self.now.points c.args.self.now.text c.point.new.self.text c.put.new.self c.in_ok-point.ensures.text c.in_ok-put.ensures)

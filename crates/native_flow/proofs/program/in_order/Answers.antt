use Rattle.native_flow.proofs.Assembling.{joined}
use Rattle.native_flow.proofs.program.in_order.Goals as goal

pub returns : goal.returns
returns c = (
  c.nowhere.result,
  joined c.args.beginning c.args.words.items c.args.returns.items c.args.edges.items c.new-blocks.result.items c.push.new.self.items c.append.new.self.items c.push-2.new.self.items c.append-2.new.self.items
      c.append-3.new.self.items c.nowhere.result c.new-blocks.ensures.items c.in_ok-push.ensures.items c.in_ok-append.ensures.items c.in_ok-push-2.ensures.items c.in_ok-append-2.ensures.items c.in_ok-append-3.ensures.items,
)

use Rattle.std.proofs.Common.{string_bytes}
use Rattle.inspect_states.proofs.Told.{some_of_line}
use Rattle.inspect_states.proofs.turns.put_end.Goals as goal

pub returns-in-Err-put_through-clause-part : goal.returns-in-Err-put_through-clause-part
returns-in-Err-put_through-clause-part g c =
    some_of_line (g.W.Write.contents c.args.out.now) (g.W.Write.contents c.put_through.new.out) c.as_bytes.result.now (string_bytes c.make_end.new.self.line) _
    c.as_bytes.ensures.value c.in-Ok.ensures c.in-Err-put_through.ensures.part

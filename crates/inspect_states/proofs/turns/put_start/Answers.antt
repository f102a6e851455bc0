use Rattle.std.proofs.Common.{string_bytes}
use Rattle.inspect_states.proofs.Told.{some_of_line}
use Rattle.inspect_states.proofs.turns.put_start.Goals as goal

pub returns-in-Err-put_all-clause-part : goal.returns-in-Err-put_all-clause-part
returns-in-Err-put_all-clause-part g c =
    some_of_line (g.W.Write.contents c.args.out.now) (g.W.Write.contents c.put_all.new.out) c.as_bytes.result.now (string_bytes c.make_start.new.self.line) _
    c.as_bytes.ensures.value c.in-Ok.ensures.text c.in-Err-put_all.ensures.part

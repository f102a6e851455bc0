use Rattle.std.proofs.Common.{codes, string_bytes}
use Rattle.std.proofs.lemmas.Result.{on_ok_weaker}
use Rattle.inspect_states.proofs.Lines.{end_is, pushed}
use Rattle.inspect_states.proofs.teller.StateTeller.make_end.Goals as goal

pub returns : goal.returns
returns g c =
    on_ok_weaker c.push_str.result
    (end_is g.row.N c.args.number c.args.machine.now.cpu (string_bytes c.clear.new.self) (string_bytes c.push_columns.new.line) (string_bytes c.push_str.new.self)
    c.shown_of.result c.clear.ensures.bytes c.shown_of.ensures c.in_ok-push_columns.ensures)
    (pushed c.push_str.result (string_bytes c.push_columns.new.line) (string_bytes c.push_str.new.self) (codes "-------- end\n") c.push_str.ensures.bytes)

use Rattle.std.proofs.Common.{codes, string_bytes}
use Rattle.std.proofs.lemmas.Result.{on_ok_weaker}
use Rattle.inspect_states.proofs.Lines.{pushed, start_is}
use Rattle.inspect_states.proofs.teller.StateTeller.make_start.Goals as goal

pub returns-clause-text : goal.returns-clause-text
returns-clause-text g c =
    on_ok_weaker c.push_str-2.result
    (start_is g.row.N c.args.self.now.registers c.args.machine.now.cpu (string_bytes c.clear.new.self) (string_bytes c.push_columns.new.line)
    (string_bytes c.push_str.new.self) (string_bytes c.put_registers.new.self.line) (string_bytes c.push_str-2.new.self)
    c.shown_of.result c.clear.ensures.bytes c.shown_of.ensures c.in_ok-push_columns.ensures c.in_ok-push_str.ensures.bytes c.in_ok-put_registers.ensures.text)
    (pushed c.push_str-2.result (string_bytes c.put_registers.new.self.line) (string_bytes c.push_str-2.new.self) (codes "\n") c.push_str-2.ensures.bytes)

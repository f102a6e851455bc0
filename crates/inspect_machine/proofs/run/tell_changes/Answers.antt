use Rattle.std.proofs.Common.{string_bytes}
use Rattle.inspect_machine.proofs.Told.{no_text, some_text, whole_text}
use Rattle.inspect_machine.proofs.run.tell_changes.Goals as goal

pub returns-in-Err-clause-part : goal.returns-in-Err-clause-part
returns-in-Err-clause-part g c = no_text (g.W.Write.contents c.args.out.now) _

pub returns-in-Ok-put_through-clause-whole : goal.returns-in-Ok-put_through-clause-whole
returns-in-Ok-put_through-clause-whole g c =
    whole_text (g.W.Write.contents c.args.out.now) (g.W.Write.contents c.put_through.new.out) (string_bytes c.new-text.result) (string_bytes c.push_changes.new.text)
    c.as_bytes.result.now _ c.new-text.ensures.bytes c.in-Ok.ensures c.as_bytes.ensures.value c.in-Ok-put_through.ensures.whole

pub returns-clause-part : goal.returns-clause-part
returns-clause-part g c =
    some_text (g.W.Write.contents c.args.out.now) (g.W.Write.contents c.put_through.new.out) (string_bytes c.new-text.result) (string_bytes c.push_changes.new.text)
    c.as_bytes.result.now _ c.new-text.ensures.bytes c.in-Ok.ensures c.as_bytes.ensures.value c.in-Err-put_through.ensures.part

use Rattle.std.proofs.Common.{codes, string_bytes}
use Rattle.std.proofs.lemmas.Result.{on_ok_weaker}
use Rattle.inspect_run.proofs.Texts.{pieces, pushed}
use Rattle.inspect_run.proofs.pages.push_pages.Goals as goal

pub returns : goal.returns
returns c =
    on_ok_weaker c.push_str-2.result (pieces (string_bytes c.args.out.now) (string_bytes c.push_str.new.self) (string_bytes c.push_table.new.out)
    (string_bytes c.push_table-2.new.out) (string_bytes c.push_table-3.new.out) (string_bytes c.push_str-2.new.self) _ _ _ _ _
    c.in_ok-push_str.ensures.bytes c.in_ok-push_table.ensures c.in_ok-push_table-2.ensures c.in_ok-push_table-3.ensures)
    (pushed c.push_str-2.result (string_bytes c.push_table-3.new.out) (string_bytes c.push_str-2.new.self) (codes "\n") c.push_str-2.ensures.bytes)

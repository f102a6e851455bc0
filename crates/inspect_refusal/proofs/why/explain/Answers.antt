use Rattle.std.proofs.Common.{string_bytes}
use Rattle.inspect_refusal.proofs.Telling.{is_told}
use Rattle.inspect_refusal.proofs.why.explain.Goals as goal

pub returns : goal.returns
returns c = is_told c.args.refusal (string_bytes c.args.out.now) (string_bytes c.push_head.new.out) (string_bytes c.push_str.new.self) c.as_str.result.now
    c.in_ok-push_head.ensures c.in_ok-push_str.ensures.bytes

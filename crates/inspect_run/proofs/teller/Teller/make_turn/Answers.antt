use Rattle.std.proofs.Common.{codes, string_bytes}
use Rattle.std.proofs.lemmas.Result.{on_ok_weaker}
use Rattle.inspect_run.proofs.Texts.{pushed}
use Rattle.inspect_run.proofs.Told.{tells}
use Rattle.inspect_run.proofs.teller.Teller.make_turn.Goals as goal

pub returns : goal.returns
returns g c =
    on_ok_weaker c.push_str-2.result
    (tells c.args.functions.now c.args.number c.args.turn.now (string_bytes c.make_head.new.line) (string_bytes c.put_effects.new.self.line)
    (string_bytes c.push_str.new.self) (string_bytes c.push_str-2.new.self) _ (codes "\n")
    c.in_ok-make_head.ensures c.in_ok-put_effects.ensures c.in_ok-push_str.ensures.bytes)
    (pushed c.push_str-2.result (string_bytes c.push_str.new.self) (string_bytes c.push_str-2.new.self) (codes "\n") c.push_str-2.ensures.bytes)

pub put_effects-requires : goal.put_effects-requires
put_effects-requires g c = assumption

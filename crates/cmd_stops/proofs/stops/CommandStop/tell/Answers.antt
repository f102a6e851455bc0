use Rattle.std.proofs.Common.{◌≡◌, ◌∙◌, List, ℕ, subst}
use Rattle.std.specs.Prelude.{OnErr, OnOk}
use Rattle.std.specs.Io.KnownBytes.{Appends}
use Rattle.sbx_put.specs.Fronts.{WroteSome}
use Rattle.cmd_stops.specs.Stops.{whole_line}
use Rattle.cmd_stops.proofs.Lines.{line_is}
use Rattle.cmd_stops.proofs.stops.CommandStop.tell.Goals as goal

pub returns-in-Ok-clause-whole : goal.returns-in-Ok-clause-whole
returns-in-Ok-clause-whole g c =
    let bytes : c.as_bytes.result.now ≡ whole_line c.args.self = c.as_bytes.ensures.value ∙ c.as_str.ensures.value
    ∙ line_is c.new-line.result c.writeln.new.self (whole_line c.args.self) c.new-line.ensures c.in-Ok.ensures.writes in
    subst (λ (line : List ℕ). OnOk c.put_all.result (Appends (g.E.Write.contents c.args.err.now) (g.E.Write.contents c.put_all.new.out) line)) bytes c.put_all.ensures.whole

pub returns-in-Ok-clause-part : goal.returns-in-Ok-clause-part
returns-in-Ok-clause-part g c =
    let bytes : c.as_bytes.result.now ≡ whole_line c.args.self = c.as_bytes.ensures.value ∙ c.as_str.ensures.value
    ∙ line_is c.new-line.result c.writeln.new.self (whole_line c.args.self) c.new-line.ensures c.in-Ok.ensures.writes in
    subst (λ (line : List ℕ). OnErr c.put_all.result (WroteSome (g.E.Write.contents c.args.err.now) (g.E.Write.contents c.put_all.new.out) line)) bytes c.put_all.ensures.part

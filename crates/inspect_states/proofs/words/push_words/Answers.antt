use Rattle.std.proofs.Common.{string_bytes}
use Rattle.std.proofs.lemmas.Result.{on_ok_weaker}
use Rattle.inspect_states.proofs.Lines.{words_ram, words_text}
use Rattle.inspect_states.proofs.words.push_words.Goals as goal

pub returns-clause-text : goal.returns-clause-text
returns-clause-text g c =
    on_ok_weaker c.push_change-4.result
    (words_text (g.B.Bus.state c.args.known.now).held.ram (g.B.Bus.state c.args.bus.now).held.ram (g.B.Bus.state c.push_change.new.known).held.ram (g.B.Bus.state c.push_change-2.new.known).held.ram
    (g.B.Bus.state c.push_change-3.new.known).held.ram c.args.places.now (string_bytes c.args.line.now) (string_bytes c.push_change.new.line)
    (string_bytes c.push_change-2.new.line) (string_bytes c.push_change-3.new.line) (string_bytes c.push_change-4.new.line)
    c.in_ok-push_change.ensures.text c.in_ok-push_change.ensures.ram c.in_ok-push_change-2.ensures.text c.in_ok-push_change-2.ensures.ram
    c.in_ok-push_change-3.ensures.text c.in_ok-push_change-3.ensures.ram) c.push_change-4.ensures.text

pub returns-clause-ram : goal.returns-clause-ram
returns-clause-ram g c =
    on_ok_weaker c.push_change-4.result
    (words_ram (g.B.Bus.state c.args.known.now).held.ram (g.B.Bus.state c.args.bus.now).held.ram (g.B.Bus.state c.push_change.new.known).held.ram (g.B.Bus.state c.push_change-2.new.known).held.ram
    (g.B.Bus.state c.push_change-3.new.known).held.ram (g.B.Bus.state c.push_change-4.new.known).held.ram c.args.places.now
    c.in_ok-push_change.ensures.ram c.in_ok-push_change-2.ensures.ram c.in_ok-push_change-3.ensures.ram) c.push_change-4.ensures.ram

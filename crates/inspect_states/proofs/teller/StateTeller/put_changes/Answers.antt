use Rattle.std.proofs.Common.{◌≡◌, ap, codes, string_bytes}
use Rattle.std.proofs.lemmas.Result.{on_ok_weaker}
use Rattle.inspect_states.specs.Lines.{registers_text, told_registers}
use Rattle.inspect_states.specs.Words.{told_words}
use Rattle.inspect_states.proofs.Lines.{always, changes_are, pushed, same_ram_ram, same_ram_text}
use Rattle.inspect_states.proofs.teller.StateTeller.put_changes.Goals as goal

pub returns-clause-text : goal.returns-clause-text
returns-clause-text g c =
    let words = same_ram_text (g.B.Bus.state c.args.self.now.memory).held.ram (g.B.Bus.state c.put_registers.new.self.memory).held.ram
    (g.B.Bus.state c.args.machine.now.bus).held.ram (g.B.Bus.state c.bus.result.now).held.ram
    c.args.places.now (string_bytes c.put_registers.new.self.line) (string_bytes c.push_words.new.line) (ap (λ m. (g.B.Bus.state m).held.ram) c.put_registers.ensures.memory)
    (ap (λ m. (g.B.Bus.state m).held.ram) c.bus.ensures) c.in_ok-push_words.ensures.text in
    on_ok_weaker c.push_str.result
    (changes_are (string_bytes c.args.self.now.line) (string_bytes c.put_registers.new.self.line) (string_bytes c.push_words.new.line) (string_bytes c.push_str.new.self)
    (registers_text g.row.N c.args.self.now.registers c.args.machine.now.cpu)
    (told_words (g.B.Bus.state c.args.self.now.memory).held.ram (g.B.Bus.state c.args.machine.now.bus).held.ram c.args.places.now).0
    c.in_ok-put_registers.ensures.text words)
    (pushed c.push_str.result (string_bytes c.push_words.new.line) (string_bytes c.push_str.new.self) (codes "\n") c.push_str.ensures.bytes)

pub returns-clause-registers : goal.returns-clause-registers
returns-clause-registers g c = always c.push_str.result c.in_ok-put_registers.ensures.registers

pub returns-clause-memory : goal.returns-clause-memory
returns-clause-memory g c =
    always c.push_str.result
    (same_ram_ram (g.B.Bus.state c.args.self.now.memory).held.ram (g.B.Bus.state c.put_registers.new.self.memory).held.ram
    (g.B.Bus.state c.args.machine.now.bus).held.ram (g.B.Bus.state c.bus.result.now).held.ram
    (g.B.Bus.state c.push_words.new.known).held.ram c.args.places.now
    (ap (λ m. (g.B.Bus.state m).held.ram) c.put_registers.ensures.memory)
    (ap (λ m. (g.B.Bus.state m).held.ram) c.bus.ensures) c.in_ok-push_words.ensures.ram)

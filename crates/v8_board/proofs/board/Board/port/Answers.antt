use Rattle.std.proofs.Common.{◌≡◌, ap, ◌∙◌}
use Rattle.v8_contained.specs.declared.Memory.{Memory}
use Rattle.v8_board.specs.Seen.{Seen}
use Rattle.v8_board.proofs.Sizes.{first_fits}
use Rattle.v8_board.proofs.board.Board.port.Goals as goal

pub returns-clause-input : goal.returns-clause-input
returns-clause-input g c =
    let is : c.port.result.now ≡ c.self.inside.machine.bus.port = c.port.ensures ∙ ap (λ (m : Memory g.row.P.Denot). m.port) c.bus.ensures in
    ap g.P.Port.input is ∙ ap (λ (s : Seen g.row.N). s.state.world.memory.device.input) c.self.view_is

pub returns-clause-output : goal.returns-clause-output
returns-clause-output g c =
    let is : c.port.result.now ≡ c.self.inside.machine.bus.port = c.port.ensures ∙ ap (λ (m : Memory g.row.P.Denot). m.port) c.bus.ensures in
    ap g.P.Port.output is ∙ ap (λ (s : Seen g.row.N). s.state.world.memory.device.output) c.self.view_is

pub returns-clause-failed : goal.returns-clause-failed
returns-clause-failed g c =
    let is : c.port.result.now ≡ c.self.inside.machine.bus.port = c.port.ensures ∙ ap (λ (m : Memory g.row.P.Denot). m.port) c.bus.ensures in
    ap g.P.Port.failed is ∙ ap (λ (s : Seen g.row.N). s.failed) c.self.view_is

pub returns-clause-calls : goal.returns-clause-calls
returns-clause-calls g c =
    let is : c.port.result.now ≡ c.self.inside.machine.bus.port = c.port.ensures ∙ ap (λ (m : Memory g.row.P.Denot). m.port) c.bus.ensures in
    ap g.P.Port.calls is ∙ ap (λ (s : Seen g.row.N). s.calls) c.self.view_is

pub returns-clause-fault : goal.returns-clause-fault
returns-clause-fault g c =
    let is : c.port.result.now ≡ c.self.inside.machine.bus.port = c.port.ensures ∙ ap (λ (m : Memory g.row.P.Denot). m.port) c.bus.ensures in
    ap g.P.Port.fault is ∙ ap (λ (s : Seen g.row.N). s.fault) c.self.view_is

pub bus-requires : goal.bus-requires
bus-requires g c = search (first_fits)

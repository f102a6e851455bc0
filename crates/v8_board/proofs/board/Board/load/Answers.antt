use Rattle.std.proofs.lemmas.Grind.{common_steps}
use Rattle.std.proofs.Common.{◌≡◌, ◌^◌, ◌<◌, ap, ◌∙◌, arith}
use Rattle.v8_core.specs.Control.{Control}
use Rattle.v8_contained.specs.declared.Memory.{Memory}
use Rattle.v8_board.specs.Seen.{Seen}
use Rattle.v8_board.proofs.Placed.{placed_kept, placed_loaded, placed_maps}
use Rattle.v8_board.proofs.Contained.{boots_state, control_is, loads_contained}
use Rattle.v8_board.proofs.Sizes.{first_fits}
use Rattle.v8_board.proofs.board.Board.load.Goals as goal

pub returns-clause-map : goal.returns-clause-map
returns-clause-map g c =
    let maps = placed_maps g.row.N c.args.image.now _ _ c.place.ensures.ram in
    rw c.boot.ensures.bus maps

pub returns-clause-loaded : goal.returns-clause-loaded
returns-clause-loaded g c =
    let loaded = placed_loaded g.row.N c.args.image.now _ _ c.place.ensures.ram in
    rw c.boot.ensures.bus loaded

pub returns-clause-start : goal.returns-clause-start
returns-clause-start g c = grind (arith, common_steps)

pub returns-clause-contained : goal.returns-clause-contained
returns-clause-contained g c =
    let kept = placed_kept g.row.N c.args.image.now _ _ c.place.ensures.ram in
    loads_contained g.row.N c.args.image.now c.self.inside.machine.cpu c.boot.new.self.cpu c.boot.new.self.bus.ram c.boot.new.self.mmu _ c.self.invariant.0
    c.self.invariant.1 c.boot.ensures.cpu c.boot.ensures.file
    (rw c.boot.ensures.bus kept) (rw c.boot.ensures.mmu c.self.invariant.2) (rw c.boot.ensures.bus c.place.ensures.stopped)

pub returns-clause-state : goal.returns-clause-state
returns-clause-state g c =
    let old = c.self.inside.machine.cpu in
    let new = c.boot.new.self.cpu in
    let kept : new.control.y ≡ old.control.y = ap (λ (k : Control). k.y) (control_is g.row.N old new c.boot.ensures.cpu) in
    let read : c.y-word.result ≡ new.control.y = c.y-word.ensures in
    let y : old.control.y < 2 ^ 32 = omega (arith, kept, read) in
    boots_state g.row.N old new c.boot.new.self.bus.ram c.boot.new.self.mmu _ c.boot.ensures.cpu y c.boot.ensures.file
    (rw c.boot.ensures.bus c.place.ensures.ram.size) (rw c.boot.ensures.bus c.place.ensures.bytes) (rw c.boot.ensures.mmu c.self.invariant.2)

pub returns-clause-failed : goal.returns-clause-failed
returns-clause-failed g c =
    let port : c.boot.new.self.bus.port ≡ c.self.inside.machine.bus.port = ap (λ (m : Memory g.row.P.Denot). m.port) c.boot.ensures.bus ∙ c.place.ensures.port
    ∙ ap (λ (m : Memory g.row.P.Denot). m.port) c.bus_mut.ensures.value in
    ap g.P.Port.failed port ∙ ap (λ (s : Seen g.row.N). s.failed) c.self.view_is

pub returns-clause-calls : goal.returns-clause-calls
returns-clause-calls g c =
    let port : c.boot.new.self.bus.port ≡ c.self.inside.machine.bus.port = ap (λ (m : Memory g.row.P.Denot). m.port) c.boot.ensures.bus ∙ c.place.ensures.port
    ∙ ap (λ (m : Memory g.row.P.Denot). m.port) c.bus_mut.ensures.value in
    ap g.P.Port.calls port ∙ ap (λ (s : Seen g.row.N). s.calls) c.self.view_is

pub y-word-requires : goal.y-word-requires
y-word-requires g c = search (first_fits)

pub boot-requires : goal.boot-requires
boot-requires g c = search (first_fits)

pub invariant_of-self : goal.invariant_of-self
invariant_of-self g c = grind (arith, common_steps)

pub bus_mut-requires : goal.bus_mut-requires
bus_mut-requires g c = search (first_fits)

pub place-requires-clause-at_least : goal.place-requires-clause-at_least
place-requires-clause-at_least g c = assumption

pub place-requires-clause-at_most : goal.place-requires-clause-at_most
place-requires-clause-at_most g c = assumption

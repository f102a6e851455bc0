use Rattle.std.proofs.lemmas.Grind.{common_steps}
use Rattle.std.proofs.Common.{ap, ◌∙◌, arith}
use Rattle.v8_windows.specs.Windows.{moved}
use Rattle.v8_windows.proofs.Ring.{entered_as}
use Rattle.v8_windows.proofs.file.RegFile.enter.Goals as goal

pub invariant_of-self : goal.invariant_of-self
invariant_of-self g c =
    let f = c.self.inside in
    let i = c.self.invariant in
    let e = entered_as g.row.N f.current c.args.window f.mask f.outs f.locals f.registers c.half-globals.result c.half.result c.half-2.result c.half-3.result
    c.whole-self-inside.result c.next-above_left.result c.next.result
    i.0 i.2 c.requires i.4 i.5 i.6 c.half-globals.ensures c.half.ensures c.half-2.ensures c.half-3.ensures c.next-above_left.ensures.value c.next.ensures.value c.whole-self-inside.ensures in
    (i.0, i.1, c.requires, i.3, e.registers, e.outs, e.locals)

pub returns : goal.returns
returns g c =
    let f = c.self.inside in
    let i = c.self.invariant in
    let e = entered_as g.row.N f.current c.args.window f.mask f.outs f.locals f.registers c.half-globals.result c.half.result c.half-2.result c.half-3.result
    c.whole-self-inside.result c.next-above_left.result c.next.result
    i.0 i.2 c.requires i.4 i.5 i.6 c.half-globals.ensures c.half.ensures c.half-2.ensures c.half-3.ensures c.next-above_left.ensures.value c.next.ensures.value c.whole-self-inside.ensures in
    e.shows ∙ ap (λ v. moved v c.args.window) c.self.view_is

pub bounds-self-inside-window-2 : goal.bounds-self-inside-window-2
bounds-self-inside-window-2 g c = assumption

pub next-requires-clause-here : goal.next-requires-clause-here
next-requires-clause-here g c = assumption

pub next-requires-clause-few : goal.next-requires-clause-few
next-requires-clause-few g c = assumption

pub bounds-self-inside-window : goal.bounds-self-inside-window
bounds-self-inside-window g c = assumption

pub bounds-self-inside-next : goal.bounds-self-inside-next
bounds-self-inside-next g c = assumption

pub bounds-self-inside-above_left : goal.bounds-self-inside-above_left
bounds-self-inside-above_left g c = assumption

pub offset_bounds-self-inside-next : goal.offset_bounds-self-inside-next
offset_bounds-self-inside-next g c = grind (arith, common_steps)

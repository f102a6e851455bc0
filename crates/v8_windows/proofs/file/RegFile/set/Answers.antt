use Rattle.std.proofs.Common.{◌≤◌, ◌<◌, ◌^◌, sym, ap, ◌∙◌, arith}
use Rattle.v8_windows.specs.Windows.{with_reg}
use Rattle.v8_windows.proofs.Ring.{writes, with_none}
use Rattle.v8_windows.proofs.Shape.{registers_written}
use Rattle.v8_windows.proofs.file.RegFile.set.Goals as goal

pub returns-then-n-ne0 : goal.returns-then-n-ne0
returns-then-n-ne0 g c =
    let f = c.self.inside in
    let i = c.self.invariant in
    let some : 1 ≤ c.number-n.result = omega (arith, c.if-n-ne0.true) in
    writes g.row.N f.current f.mask f.outs f.locals f.registers c.number-n.result c.args.x i.0 i.2 i.4 i.5 i.6 some c.number-n.ensures.bound
    ∙ ap (λ v. with_reg g.row.N v c.number-n.result c.args.x) c.self.view_is
    ∙ ap (λ r. with_reg g.row.N c.args.self.now r c.args.x) c.number-n.ensures.value

pub returns-else-n-ne0 : goal.returns-else-n-ne0
returns-else-n-ne0 g c =
    sym (ap (λ r. with_reg g.row.N c.args.self.now r c.args.x) (sym c.number-n.ensures.value ∙ c.if-n-ne0.false) ∙ with_none g.row.N c.args.self.now c.args.x)

pub invariant_of-self : goal.invariant_of-self
invariant_of-self g c =
    let i = c.self.invariant in
    let some : 1 ≤ c.number-n.result = omega (arith, c.if-n-ne0.true) in
    let small : c.args.x < 2 ^ 32 = c.ranges.x.fits in
    (i.0, i.1, i.2, i.3, registers_written c.self.inside.registers c.number-n.result c.args.x i.4 some c.number-n.ensures.bound small, i.5, i.6)

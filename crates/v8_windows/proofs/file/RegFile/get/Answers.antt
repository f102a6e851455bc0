use Rattle.std.proofs.Common.{ap, ◌∙◌}
use Rattle.v8_windows.specs.Windows.{reg_of}
use Rattle.v8_windows.proofs.Ring.{reads}
use Rattle.v8_windows.proofs.file.RegFile.get.Goals as goal

pub returns : goal.returns
returns g c =
    let f = c.self.inside in
    let i = c.self.invariant in
    reads g.row.N f.current f.mask f.outs f.locals f.registers c.number.result i.0 i.2 i.4 i.5 i.6 c.number.ensures.bound
    ∙ ap (λ v. reg_of g.row.N v c.number.result) c.self.view_is
    ∙ ap (reg_of g.row.N c.args.self.now) c.number.ensures.value

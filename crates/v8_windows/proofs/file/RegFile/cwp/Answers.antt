use Rattle.std.proofs.Common.{rules, subst}
use Rattle.v8_windows.specs.Windows.{IsFile}
use Rattle.v8_windows.proofs.Ring.{shown_file}
use Rattle.v8_windows.proofs.file.RegFile.cwp.Goals as goal

pub returns-clause-value : goal.returns-clause-value
returns-clause-value c = search rules

pub returns-clause-in_range : goal.returns-clause-in_range
returns-clause-in_range c = search rules

pub returns-clause-file : goal.returns-clause-file
returns-clause-file g c =
    let f = c.self.inside in
    let i = c.self.invariant in
    subst (IsFile g.row.N) c.self.view_is (shown_file g.row.N f.current f.mask f.outs f.locals f.registers i.0 i.1 i.2 i.3 i.4 i.5 i.6)

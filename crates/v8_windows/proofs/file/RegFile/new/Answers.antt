use Rattle.std.proofs.Common.{arith}
use Rattle.std.proofs.lemmas.Nat.{pow_pos}
use Rattle.v8_windows.proofs.Ring.{registers_new, shown_new}
use Rattle.v8_windows.proofs.Rows.{halves_new}
use Rattle.v8_windows.proofs.file.RegFile.new.Goals as goal

pub invariant_of-result : goal.invariant_of-result
invariant_of-result g c =
    let few = c.requires.at_least in
    (few, c.requires.at_most, omega arith, pow_pos g.row.N, registers_new, halves_new g.row.N, halves_new g.row.N)

pub returns : goal.returns
returns g c = shown_new g.row.N c.requires.at_least

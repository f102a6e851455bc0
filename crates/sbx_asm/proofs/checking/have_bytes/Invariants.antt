use Rattle.std.proofs.Common.{◌≡◌, drop}
use Rattle.sbx_asm.specs.Items.{has_bytes}
use Rattle.sbx_asm.proofs.Views.{leaves_region}
use Rattle.sbx_asm.proofs.Walks.{found_in}
use Rattle.sbx_asm.proofs.checking.have_bytes.Given as goal

abbrev pub invariant-loop-line : goal.invariant-loop-line
invariant-loop-line l = found_in leaves_region has_bytes (drop l.line-index l.lines) ≡ found_in leaves_region has_bytes l.lines

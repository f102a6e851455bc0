use Rattle.std.proofs.Common.{ap, ◌∙◌}
use Rattle.v8_core.specs.Windows.{reg_of}
use Rattle.v8_board.specs.Seen.{Seen}
use Rattle.v8_board.proofs.Sizes.{first_fits}
use Rattle.v8_board.proofs.board.Board.reg.Goals as goal

pub returns : goal.returns
returns g c = c.reg.ensures ∙ ap (λ (s : Seen g.row.N). reg_of g.row.N s.state.world.cpu.regs c.args.r) c.self.view_is

pub reg-requires : goal.reg-requires
reg-requires g c = search (first_fits)

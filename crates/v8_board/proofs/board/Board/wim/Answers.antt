use Rattle.std.proofs.Common.{ap, ◌∙◌}
use Rattle.v8_board.specs.Seen.{Seen}
use Rattle.v8_board.proofs.Sizes.{first_fits}
use Rattle.v8_board.proofs.board.Board.wim.Goals as goal

pub returns : goal.returns
returns g c = c.wim.ensures ∙ ap (λ (s : Seen g.row.N). s.state.world.cpu.regs.mask) c.self.view_is

pub wim-requires : goal.wim-requires
wim-requires g c = search (first_fits)

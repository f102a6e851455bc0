use Rattle.std.proofs.Common.{ap, ◌∙◌}
use Rattle.v8_board.specs.Seen.{Seen}
use Rattle.v8_board.proofs.Sizes.{first_fits}
use Rattle.v8_board.proofs.board.Board.y.Goals as goal

pub returns : goal.returns
returns g c = c.y.ensures ∙ ap (λ (s : Seen g.row.N). s.state.world.cpu.control.y) c.self.view_is

pub y-requires : goal.y-requires
y-requires g c = search (first_fits)

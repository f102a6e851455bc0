use Rattle.std.proofs.Common.{ap, ◌∙◌}
use Rattle.v8_core.specs.Registers.{psr_of}
use Rattle.v8_board.specs.Seen.{Seen}
use Rattle.v8_board.proofs.Sizes.{first_fits}
use Rattle.v8_board.proofs.board.Board.psr.Goals as goal

pub returns : goal.returns
returns g c = c.psr.ensures ∙ ap (λ (s : Seen g.row.N). psr_of g.row.N s.state.world.cpu) c.self.view_is

pub psr-requires : goal.psr-requires
psr-requires g c = search (first_fits)

use Rattle.std.proofs.Common.{ap, ◌∙◌}
use Rattle.v8_board.specs.Seen.{Seen}
use Rattle.v8_board.proofs.Sizes.{first_fits}
use Rattle.v8_board.proofs.board.Board.fault_status.Goals as goal

pub returns : goal.returns
returns g c = c.fault_status.ensures ∙ ap (λ (s : Seen g.row.N). s.state.world.cpu.control.status) c.self.view_is

pub fault_status-requires : goal.fault_status-requires
fault_status-requires g c = search (first_fits)

use Rattle.std.proofs.lemmas.Grind.{common_steps}
use Rattle.v8_board.specs.Seen.{ending_of}
use Rattle.std.proofs.Common.{rules, arith}
use Rattle.v8_board.proofs.Sizes.{first_fits}
use Rattle.v8_board.proofs.board.Board.ending.Goals as goal

pub returns-in-Some-Trapped : goal.returns-in-Some-Trapped
unfolding ending_of
returns-in-Some-Trapped g c = search rules

pub error_mode-requires : goal.error_mode-requires
error_mode-requires g c = search (first_fits)

pub trap_type-requires : goal.trap_type-requires
trap_type-requires g c = search (first_fits)

pub bus-requires : goal.bus-requires
bus-requires g c = search (first_fits)

pub returns-in-Some-Exit : goal.returns-in-Some-Exit
unfolding ending_of
returns-in-Some-Exit g c = grind (arith, common_steps)

pub returns-in-None-error_mode : goal.returns-in-None-error_mode
unfolding ending_of
returns-in-None-error_mode g c = grind (arith, common_steps)

pub returns-in-Some : goal.returns-in-Some
unfolding ending_of
returns-in-Some g c = grind (arith, common_steps)

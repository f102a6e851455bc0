use Rattle.std.proofs.Common.{rules}
use Rattle.v8_state.specs.Registers.{tbr_of}
use Rattle.v8_state.proofs.state.Control.tbr.Goals as goal

pub returns : goal.returns
unfolding tbr_of
returns c = search rules

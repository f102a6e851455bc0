use Rattle.sbx_shows.proofs.Users.{reads_the_same}
use Rattle.sbx_shows.proofs.laws.registers_read_the_same.Goals as goal

pub returns : goal.returns
returns c = reads_the_same

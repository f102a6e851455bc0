use Rattle.sbx_run.proofs.Ends.{safe_images_exit}
use Rattle.sbx_run.proofs.laws.safe_images_exit_on_any_board.Goals as goal

pub returns : goal.returns
returns c = safe_images_exit

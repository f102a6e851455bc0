use Rattle.v8_contained.proofs.UserRuns.{user_runs}
use Rattle.v8_contained.proofs.laws.user_code_runs.Goals as goal

pub returns : goal.returns
returns c = λ n g words mmu x i h st running sane user straight place within. user_runs n g words mmu x i h st running sane user straight place within

-- Runs of safe images.
--   Again                    a board that was loaded is as one that is loaded again
--   Pages                    the pages' use, bit by bit
--   Ends, Answered           what the law of whole runs makes of a run, and what is told of it
--   Quiet                    what the declared depth makes of it
pub mod Pages
pub mod Again
pub mod Ends
pub mod Quiet
pub mod Answered
pub use Rattle.sbx_verify.proofs.Refusals
pub use Rattle.sbx_verify.proofs.Whole

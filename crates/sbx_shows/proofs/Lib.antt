-- What the board shows of the flat machine, part by part, and what a turn of user code leaves of it.
--   Distances          windows by how far they are from the current one
--   Reading, Writing, Alike, Frames      registers of both machines: read, written, in any order, a call begun and ended
--   Fields, Processor                    the fields of words; what operations do to the processor
--   Pages, Kept, Stacks                  RAM that differs in marks; where save areas and slots lie; the image's own pages
--   Users, Places      what is shown, after marks, a register, and a step of PC and nPC; where user code stands
--   Numbers                              loaded numbers are words
-- One turn, an operation group each:
--   Results            of those that reach no memory and no window
--   Slots, Data, Moved, Transfers        loads, stores and exchanges
--   Jumps, Callers     transfers of control; SAVE and RESTORE that find a window
-- Steps with their turns and counts:
--   Own, Traffics, Advancing, Services, Whole      without a window trap
--   Overflow, Underflow, Retries                   a window trap: what is shown after its 24 turns; with the instruction again
-- Whole runs.
--   Start                    a board that was loaded shows a flat start
--   Earlier                  nothing reads what was put out before
--   Induction, Ending        steps one after the other, to the end
pub mod Pages
pub mod Processor
pub mod Fields
pub mod Distances
pub mod Reading
pub mod Writing
pub mod Kept
pub mod Stacks
pub mod Frames
pub mod Users
pub mod Numbers
pub mod Alike
pub mod Places
pub mod Results
pub mod Jumps
pub mod Callers
pub mod Slots
pub mod Data
pub mod Moved
pub mod Transfers
pub mod Own
pub mod Traffics
pub mod Advancing
pub mod Services
pub mod Whole
pub mod Overflow
pub mod Underflow
pub mod Retries
pub mod Start
pub mod Earlier
pub mod Induction
pub mod Ending
pub use Rattle.v8_board.proofs.Placed
pub use Rattle.v8_board.proofs.Stays
pub use Rattle.v8_board.proofs.Within

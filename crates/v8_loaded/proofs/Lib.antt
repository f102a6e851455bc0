-- The turns of user code on a loaded board, and of a window handler, one lemma for each word.
--   Users              a turn of user code: its fetch, a trap that it takes, an instruction that runs
--   Forbidden          a store to where it may not write
--   Vectors            a turn in the vector of a trap that it took
--   Leading            turns in a row
-- A handler's turns, from the trap on:
--   Entered.first_stage      the state that the trap enters is a `stage` (Stages)
--   Turns.starts             no turn yet; `Comes .. j old new`: after j turns from `old` the processor is `new`
--   Turns.table, Turns.handler      one turn more, of a word that reaches no memory. Each wants:
--                              the word's operation      Words.NAME : Asks word operation
--                              what it does              Effects.NAME_does : Does n old operation new
--   Stack.in_store, Stack.in_load        one turn more, of a double word on the stack; what a load writes: Stages.pair_written (locals), pair_written_ins
--   Effects.returns_does     RETT leads to `finished`; Entered.finished_control: its control registers are the old ones but for PS and tt
--   Windows                  below and above, and the mask of one bit: right_bit (overflow), left_bit (underflow), not_masked
--   Turns.Keeps              what RAM is after them
--   Handled                  the trap's turn and the handler's together
--   Frames                   what follows from a board's state (IsState)
pub mod Upto
pub mod Windows
pub mod Words
pub mod Fetches
pub mod Stages
pub mod Effects
pub mod Entered
pub mod Leading
pub mod Users
pub mod Forbidden
pub mod Vectors
pub mod Turns
pub mod Stack
pub mod Handled
pub mod Frames
pub use Rattle.v8_layout.proofs.Marks
pub use Rattle.v8_layout.proofs.Map

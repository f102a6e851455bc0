-- The window handlers and the services, turn by turn.
--   Overflow..         a SAVE that traps, and the turns of its handler
--   Underflow..        a RESTORE that traps, and the turns of its handler
--   Frames, Vector, Served      a call of a service, and the words of its vector
pub mod OverflowRows
pub mod OverflowTurns
pub mod OverflowAfter
pub mod OverflowLaw
pub mod UnderflowCells
pub mod UnderflowRows
pub mod UnderflowTurns
pub mod UnderflowLaw
pub mod Frames
pub mod Vector
pub mod Served

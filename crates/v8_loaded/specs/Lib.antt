pub mod Places
pub mod Turns
pub mod Users
pub mod States
pub mod Areas
pub mod Laws
-- What a loaded board is said in, for the crates above.
pub use Rattle.v8_layout.specs.Handlers
pub use Rattle.v8_layout.specs.Layout
pub use Rattle.v8_layout.specs.AddressMap
pub use Rattle.v8_memory.specs.Board
pub use Rattle.v8_memory.specs.Input
pub use Rattle.v8_memory.specs.Placing

pub mod Forms
pub mod Text
pub mod Laws
pub use Rattle.v8_word.specs.Registers

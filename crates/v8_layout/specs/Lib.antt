pub mod Layout
pub mod AddressMap
pub mod Laws
pub mod Tables
-- What a loaded board holds beside its tables.
pub use Rattle.v8_handlers.specs.Handlers

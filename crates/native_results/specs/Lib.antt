pub mod DoesAll
pub mod ShowsState
pub mod Words
pub mod Operands
pub mod Bench
pub mod Codes
pub mod Recipes
pub mod Quotients

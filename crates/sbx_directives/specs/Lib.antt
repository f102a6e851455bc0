pub mod Directives
pub mod Data

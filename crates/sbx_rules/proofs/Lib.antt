pub mod Asking
pub mod Quiet
pub mod Computed
pub mod Everywhere
pub mod Examples
pub mod Regions

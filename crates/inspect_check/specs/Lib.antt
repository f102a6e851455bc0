pub mod Alone
pub mod Faults
pub mod Laws

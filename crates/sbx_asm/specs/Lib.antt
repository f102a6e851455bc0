pub mod Items
pub mod Addresses
pub mod Rules
pub mod Images
pub mod Laws
pub mod Kept

pub mod Texts
pub mod Sliced
pub mod Found
pub mod Sizes
pub mod Told

pub mod Steps
pub mod Limits
pub mod Eaches
pub mod Every
pub mod Ordered
pub mod Placing
pub mod Within

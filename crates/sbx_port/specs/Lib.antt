pub mod Ports
pub mod Following
pub mod Streams

pub mod Mailbox
pub mod Laws
pub mod Alike

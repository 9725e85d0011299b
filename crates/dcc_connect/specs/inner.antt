pub mod Steps
pub mod Sends
pub mod Items
pub mod Gathers
pub mod Answering

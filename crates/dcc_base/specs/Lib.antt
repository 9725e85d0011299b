pub mod Capabilities
pub mod Requests
pub mod Answers
pub mod Peers

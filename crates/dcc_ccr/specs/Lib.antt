pub mod Steps
pub mod Types
pub mod Amounts
pub mod Subscribers
pub mod Services
pub mod Contradictions
pub mod Requests

pub mod Settings
pub mod Messages
pub mod Sought
pub mod Verdicts
pub mod Refusals
pub mod Dispatches
pub mod inner

pub mod Waits
pub mod Dues
pub mod Refusals
pub mod Messages

pub mod Sending
pub mod Refusals
pub mod Upgrades

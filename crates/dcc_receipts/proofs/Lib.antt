pub mod Marked
pub mod Orders
pub mod Outcomes
pub mod Places
pub mod SameActs
pub mod Singles
pub mod Stretches

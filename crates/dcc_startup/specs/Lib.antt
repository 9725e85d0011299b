pub mod Openings
pub mod inner

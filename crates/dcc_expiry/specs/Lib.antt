pub mod Deadlines
pub mod inner

pub mod Acts
pub mod Answers
pub mod Refusals
pub mod inner

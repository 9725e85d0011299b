pub mod Grants
pub mod Sessions
pub mod inner

pub mod OpenSessions
pub mod Known
pub mod Looks
pub mod Backed
pub mod inner

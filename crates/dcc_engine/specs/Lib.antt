pub mod Engines
pub mod Openers
pub mod Asks
pub mod Isolation
pub mod inner

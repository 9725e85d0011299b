pub mod Books
pub mod Acts
pub mod Audited
pub mod Calls
pub mod Batches
pub mod Tallies
pub mod Told
pub mod inner

pub mod Shards
pub mod Answers
pub mod Stored
pub mod Batches
pub mod Routes
pub mod Openers
pub mod inner

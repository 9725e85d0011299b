pub mod Auditing
pub mod Batches
pub mod Watching

pub mod Sums
pub mod Adding
pub mod Reading
pub mod Orders
pub mod Stopping
pub mod Batches

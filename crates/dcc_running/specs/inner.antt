pub mod Batches
pub mod Locks
pub mod Marked
pub mod Numbers
pub mod Told
pub mod Touches
pub mod Wards

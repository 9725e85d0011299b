pub mod Rows
pub mod Pages
pub mod Tallies
pub mod Stored
pub mod Held
pub mod Ordered
pub mod OldRows
pub mod inner

pub mod Stopped
pub mod OldBooks
pub mod Upgraded

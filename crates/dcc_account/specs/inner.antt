pub mod Brought
pub mod Indexed
pub mod Kept

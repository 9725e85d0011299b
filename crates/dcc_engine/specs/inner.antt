pub mod Turns
pub mod Hosts
pub mod Rows
pub mod Sweeps

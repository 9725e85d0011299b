pub mod Scripts
pub mod Printed
pub mod Faults
pub mod Names
pub mod Replays

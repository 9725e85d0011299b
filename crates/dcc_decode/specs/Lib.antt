pub mod Texts
pub mod Lines
pub mod Decodings
pub mod Faults

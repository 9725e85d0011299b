pub mod Cutting
pub mod Held
pub mod AnyCut
pub mod Fields

pub mod Loop
pub mod Parts
pub mod Services
pub mod Requests
pub mod ByKind
pub mod Acts

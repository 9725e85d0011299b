pub mod Streams
pub mod HeaderView
pub mod Headers
pub mod Faults
pub mod inner

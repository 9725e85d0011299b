pub mod Faults
pub mod Clocks
pub mod Streams
pub mod Reading
pub mod Writing
pub mod Serving
pub mod inner

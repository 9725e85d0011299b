pub mod Books
pub mod Contents
pub mod Batches
pub mod Stops
pub mod Faults
pub mod Memory
pub mod Laws
pub mod inner

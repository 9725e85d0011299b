pub mod Books
pub mod Indexed
pub mod Pending
pub mod Routed
pub mod Plans

pub mod Walks
pub mod Counts
pub mod Lists
pub mod Sizes

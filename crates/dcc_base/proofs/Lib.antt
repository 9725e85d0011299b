pub mod Replies
pub mod Sizes
pub mod Results
pub mod Told

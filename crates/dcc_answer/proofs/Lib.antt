pub mod Appended
pub mod Spelled
pub mod ReadBack
pub mod Results
pub mod Shown

pub mod Limits
pub mod Forms
pub mod Bounds
pub mod Sizes
pub mod Shown
pub mod Named

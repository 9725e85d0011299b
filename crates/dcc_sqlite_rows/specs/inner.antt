pub mod Groups
pub mod Judged
pub mod Versions

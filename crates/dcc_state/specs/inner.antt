pub mod Grants
pub mod Judged

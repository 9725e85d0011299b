pub mod Failing
pub mod Gated

pub mod Columns
pub mod Moments
pub mod Ledger
pub mod Laws

pub mod Faults
pub mod Records
pub mod Limits
pub mod OldRecords
pub mod inner

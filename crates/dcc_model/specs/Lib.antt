pub mod Keys
pub mod Results
pub mod Sessions
pub mod Money
pub mod Outcomes
pub mod Entries
pub mod Laws
pub mod inner

pub mod Texts
pub mod Ledgers
pub mod TopUps
pub mod Commands
pub mod Many
pub mod inner
pub mod Lines

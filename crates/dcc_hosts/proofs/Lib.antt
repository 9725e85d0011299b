pub mod Blind
pub mod Sessions
pub mod Money
pub mod Outcomes
pub mod Histories
pub mod LawProofs

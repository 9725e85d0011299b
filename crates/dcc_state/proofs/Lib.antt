mod Answering
mod Walks
mod Finds
mod OwnGrants
mod Names
mod OpenOnes
mod Totals
mod Decided
mod NextSessions
mod NewSessions
mod Deadlines
mod Judged
mod Within
pub mod Backing
pub mod Backs
pub mod Money
pub mod Taken
pub mod Turns

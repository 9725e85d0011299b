pub mod Begun
pub mod Opened
mod Batches
mod LineLemmas
mod LineTexts

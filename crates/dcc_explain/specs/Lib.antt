pub mod Flaws
pub mod Words

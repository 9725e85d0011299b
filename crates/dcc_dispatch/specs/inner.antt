pub mod Headings
pub mod Known

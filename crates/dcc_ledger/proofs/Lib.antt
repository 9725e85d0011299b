pub mod Calendar
pub mod Dates
pub mod Lines
pub mod Names
pub mod Padding
pub mod ReadBack

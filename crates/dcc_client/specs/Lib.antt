pub mod Requests
pub mod Findings
pub mod Answers
pub mod Words
pub mod inner

pub mod Sizes
pub mod Avps
pub mod Proxies
pub mod Answers
pub mod Results
pub mod Failed

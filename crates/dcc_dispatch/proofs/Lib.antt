pub mod Refusals
pub mod Lists
pub mod Keys
pub mod Replies
pub mod Charges

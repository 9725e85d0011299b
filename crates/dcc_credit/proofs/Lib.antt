pub mod Apart
pub mod ServiceSizes
pub mod Appended
pub mod Taken
pub mod Messages
pub mod Refusals
pub mod Spelled

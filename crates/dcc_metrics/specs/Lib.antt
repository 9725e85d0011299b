pub mod Messages
pub mod Times
pub mod Families
pub mod Pages
pub mod Hosts
pub mod Meters

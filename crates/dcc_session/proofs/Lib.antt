pub mod Keys
pub mod Taking
pub mod Covering
pub mod Reporting

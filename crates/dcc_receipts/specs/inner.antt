pub mod Singles
pub mod Spots

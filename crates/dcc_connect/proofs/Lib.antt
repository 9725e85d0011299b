pub mod Cuts
pub mod Nexting
pub mod Passing
pub mod Turning
pub mod Octets
pub mod Items
pub mod Batches
pub mod Replying

pub mod Acts
pub mod Audit
pub mod Checks
pub mod Faults
pub mod Marks
pub mod Stretches
pub mod Tops
pub mod inner

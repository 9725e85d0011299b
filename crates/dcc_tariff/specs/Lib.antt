pub mod Terms
pub mod Prices
pub mod Faults
pub mod Plans
pub mod Rows
pub mod PlanTexts
pub mod inner

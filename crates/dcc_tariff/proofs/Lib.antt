pub mod PriceLemmas
pub mod VersionLemmas
pub mod PlaceLemmas
pub mod PlanLemmas
pub mod AddressLemmas
pub mod TableLemmas
pub mod ReadingLemmas

pub mod PlanLemmas
pub mod CommandLineLemmas
pub mod StoreLemmas
pub mod Callings
pub mod TextLemmas

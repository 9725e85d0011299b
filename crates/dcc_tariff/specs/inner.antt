pub mod PlanViews
pub mod Seen

-- The definitions of this crate: sums by type, and what the answers of the plan test say.
pub mod Sums
pub mod PlanSays

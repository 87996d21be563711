-- The laws of this crate: what the plan test and the price test say, in plain statements.
pub mod PlanExact
pub mod PriceExact
pub mod AcceptsExactly

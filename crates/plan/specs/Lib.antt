-- The definitions of this crate: the plan and its test, the prices and their test, the two calls, and what they accept.
pub mod Plan
pub mod Prices
pub mod Feasible
pub mod PlanCall
pub mod PriceCall
pub mod Exactly

-- The laws of this crate: the plan test on plain values.
pub mod CodeSums
pub mod CodeRow
pub mod CodePass
pub mod CodeOpened
pub mod CodePlan
pub mod CodeListed
pub mod CodeCall
pub mod CodePlanCall

-- The definitions of this crate: the lines 3 so far, and the model of a saw text's job, as they are kept.
pub mod PlanRead
pub mod ModelRead

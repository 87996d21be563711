-- Demand 3: the bound by prices, the unfolding, the folding, and the whole; request Seven of every job that is listed.
pub mod Bound
pub mod DemandUnfold
pub mod DemandFold
pub mod Exact
pub mod Demand3
pub mod OwnCuts

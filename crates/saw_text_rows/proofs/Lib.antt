-- The laws of this crate: counts with zeros behind them, the plan row, the prices row, the unfolding, and lines 7 as its words.
pub mod Filled
pub mod PlanPart
pub mod PricePart
pub mod UnfoldPart
pub mod UnfoldedLines

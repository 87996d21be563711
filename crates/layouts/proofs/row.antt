-- Laws of the layouts row: lines and their words against sets of layouts, both ways.
pub mod RowTurns
pub mod RowLines
pub mod Grouping
pub mod RowRules
pub mod RowBack
pub mod Row
pub mod RowWords

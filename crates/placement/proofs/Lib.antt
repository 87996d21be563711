-- The laws of this crate: placements written one after another, and read one by one.
pub mod Rows
pub mod Written
pub mod BothWays

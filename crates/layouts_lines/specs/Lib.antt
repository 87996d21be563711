-- The definitions of this crate: the limits of a line's turn, and lines counted by item type.
pub mod Limits
pub mod LineSums

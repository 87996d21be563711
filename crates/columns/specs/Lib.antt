-- The definitions of this crate: widths, a group of nine columns, a line.
pub mod Widths
pub mod Group
pub mod Columns
pub mod Line
pub mod Words

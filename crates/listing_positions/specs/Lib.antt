-- The definitions of this crate: from which side on a plate is kept, and the table of a job's positions.
pub mod Least
pub mod Table

-- The definitions of this crate: what is written to an output.
pub mod Wrote

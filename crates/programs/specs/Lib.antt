-- The definitions of this crate: what a program reads and writes.
pub mod Program

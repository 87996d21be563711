-- The laws of this crate.
pub mod Boarding
pub mod Passed
pub mod Filling
pub mod CodeEnding

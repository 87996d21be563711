-- The laws of this crate's code, on plain values.
pub mod Longer
pub mod CodeAccepted
pub mod CodeEnding

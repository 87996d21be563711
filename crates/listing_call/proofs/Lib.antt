-- The laws of this crate.
pub mod Entering
pub mod Keeping
pub mod Lying
pub mod Pairing
pub mod Sizing
pub mod Stepping
pub mod Walking
pub mod CodeEnding

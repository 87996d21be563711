-- The laws of this crate's code, on plain values.
pub mod CodeOpening
pub mod CodeRun
pub mod CodeLeaving

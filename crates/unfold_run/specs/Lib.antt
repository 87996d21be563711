-- The definitions of this crate: how far a run has come, and what it gives.
pub mod Opening
pub mod Going

-- The definitions of this crate: the index of residual types.
pub mod Index

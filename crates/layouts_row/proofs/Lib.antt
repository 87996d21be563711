-- The laws of this crate: the layouts row on plain values.
pub mod CodeRows

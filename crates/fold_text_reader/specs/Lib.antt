-- The definitions of this crate: what the reader of a fold text keeps.
pub mod FoldKept
pub mod Parts

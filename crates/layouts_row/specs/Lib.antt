-- The definitions of this crate: parts of the layouts row.
pub mod RowParts

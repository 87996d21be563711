-- The definition of this crate: the piece that is taken next.
pub mod Next

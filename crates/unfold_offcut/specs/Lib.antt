-- The definitions of this crate: what an offcut of the code means.
pub mod Meaning

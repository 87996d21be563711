-- The definitions of this crate: what the code knows of the words that it is lent, keys, and runs of cuts.
pub mod Lent
pub mod Key
pub mod Chain
pub mod Strip

-- The definitions of this crate: how a fold text ends.
pub mod TextEnd
pub mod FoldEnd
pub mod Finished

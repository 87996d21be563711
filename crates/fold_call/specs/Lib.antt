-- The definitions of this crate: the boards of lines and their cost, what the folding call's answer says and how the call ends.
pub mod Boarded
pub mod FoldSays

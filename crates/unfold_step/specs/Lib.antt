-- The definitions of this crate: what a state and a step of the code mean, and what the code knows of the words that it is lent.
pub mod Meaning
pub mod Ready

-- The definitions of this crate: what the code's structs and enums mean, which pieces wait on, where the cuts of a plate type begin, and how large the numbers of a turn are.
pub mod Meaning
pub mod Without
pub mod Begins
pub mod Turns

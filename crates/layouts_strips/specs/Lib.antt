-- The definitions of this crate: what a line begins, the first stack and strip of a set, their measures, the stage rule stack by stack, positions.
pub mod Begun
pub mod First
pub mod Measures
pub mod Staged
pub mod Spots

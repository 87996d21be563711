-- The definitions of this crate: the reader of a saw text in its state and lent buffers, and a text in parts.
pub mod SawFed
pub mod Parts
pub mod NextLine
pub mod Onward
pub mod BodyRun
pub mod PriceRun

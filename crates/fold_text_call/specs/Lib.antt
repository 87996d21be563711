-- The definitions of this crate: the answer to a fold text.
pub mod Called

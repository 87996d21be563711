-- The laws of this crate's code, on plain values.
pub mod CodeSearch
pub mod CodeLeft
pub mod CodeBegins
pub mod CodeWaiting

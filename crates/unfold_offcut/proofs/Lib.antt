-- The laws of this crate: offcuts written one after another.
pub mod Written

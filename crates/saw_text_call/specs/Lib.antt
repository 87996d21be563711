-- The definitions of this crate: what the saw text leaves as one call.
pub mod TextCall

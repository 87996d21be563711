-- The definitions of this crate: how a saw text ends.
pub mod SawEnd
pub mod Finished

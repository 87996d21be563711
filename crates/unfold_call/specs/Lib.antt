-- The definitions of this crate: what the call's answer says, and how a call ends.
pub mod UnfoldSays

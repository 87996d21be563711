-- The definitions of this crate: how the code's walk stands to that of the model, and what the listing call's answer says.
pub mod Steps
pub mod ListSays

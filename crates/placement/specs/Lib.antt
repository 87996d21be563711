-- The definitions of this crate: a placement as the code holds it, and as it reads it from words.
pub mod PlacementRead
pub mod BothWays

-- The laws of this crate: strips of layouts on plain values.
pub mod CodeBegun
pub mod CodeFirst
pub mod CodeStacks
pub mod CodeStrips
pub mod CodeStaged
pub mod CodeLaid
pub mod CodeSpots

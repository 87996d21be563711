-- The laws of this crate.
pub mod Tallying
pub mod Passing
pub mod Chaining
pub mod Keys
pub mod CodeCount
pub mod Fronts
pub mod StackLines
pub mod Singles
pub mod Sets
pub mod CodeStrip
pub mod CodeFold

-- The laws of this crate's code, on plain values.
pub mod Steps
pub mod Inside
pub mod CodeCut
pub mod CodeParts
pub mod CodeStep

-- The laws of this crate: what a line, and what a part, makes of what is kept of a fold text.
pub mod CodeRows
pub mod CodeLines
pub mod CodeAdmitted
pub mod CodeParts
pub mod CodeSplits

-- The laws of this crate: the answer by the rows, the model that is kept, what is kept where a text ends.
pub mod Answers
pub mod JobPart
pub mod KeptEnds

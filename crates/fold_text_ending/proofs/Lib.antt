-- The laws of this crate: the line row of a text that ends, the lines 3 of layouts that fold, the answer, the job and the model, the sizes of buffers,
-- and what the reader keeps.
pub mod TextRow
pub mod Folded
pub mod Answers
pub mod JobPart
pub mod Room
pub mod KeptEnds

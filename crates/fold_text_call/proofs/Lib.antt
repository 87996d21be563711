-- The laws of this crate: texts in parts, and the answer to the whole.
pub mod TextParts
pub mod Answers
pub mod ToHost

-- The laws of this crate: what a text read in parts leaves in the lent buffers, and the answer by it.
pub mod Left
pub mod TextParts
pub mod ToHost

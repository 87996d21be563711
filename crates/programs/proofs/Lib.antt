-- The laws of this crate: how much of an input decides, a part that is filled, parts that have been read, what is handed to the write.
pub mod Decided
pub mod Filled
pub mod PartsRead
pub mod Answered

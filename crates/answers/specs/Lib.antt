-- The definitions of this crate: what a call, and a text, leave to a host.
pub mod AnswerWords
pub mod TextAnswer

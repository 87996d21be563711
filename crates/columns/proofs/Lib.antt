-- The laws of this crate: a group and a line, both ways.
pub mod GroupLaws
pub mod LineLaws
pub mod ReadLaws
pub mod WordLaws

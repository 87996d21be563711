-- The laws of this crate: cut trees and patterns, from which demand 3 follows.
pub mod lists
pub mod trees
pub mod patterns
pub mod rules
pub mod machine
pub mod offcuts
pub mod fold
pub mod row
pub mod demand

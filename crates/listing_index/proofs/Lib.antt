-- The laws of the index.
pub mod Latest
pub mod Searching
pub mod Growing
pub mod Chains
pub mod Counting
pub mod Buckets

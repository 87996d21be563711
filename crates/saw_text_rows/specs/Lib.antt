-- The definitions of this crate: the plan row and the prices row of a saw text, and its lines 7 as the words of the unfolding call.
pub mod Tail
pub mod AsUnfolding

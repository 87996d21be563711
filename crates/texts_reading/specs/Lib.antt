-- The definitions of this crate: what its answers mean.
pub mod Judged
pub mod Begun
pub mod LineEnd
pub mod Standing
pub mod Within
pub mod JobRead
pub mod Parts
pub mod TextEnd

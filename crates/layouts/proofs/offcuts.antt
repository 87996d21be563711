-- Request Two: what a run does on each board, what is cut and left over, the area balance, and where offcuts lie.
pub mod Events
pub mod Flow
pub mod Sized
pub mod AreaBalance
pub mod Steps
pub mod Enough
pub mod Parts
pub mod OffcutsLie

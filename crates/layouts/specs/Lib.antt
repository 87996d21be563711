-- The definitions of this crate: sets of layouts and the words of demand 3, unfolding and what it leaves over, folding, the two calls, demand 3, the unfolding
-- that looks at a plate type's own cuts alone, and what the calls promise.
pub mod Layout
pub mod Placement
pub mod Rectangle
pub mod Unfold
pub mod Offcuts
pub mod Lines
pub mod LayoutsRow
pub mod Fold
pub mod UnfoldCall
pub mod FoldCall
pub mod Rules
pub mod Exact
pub mod Balance
pub mod Parts
pub mod Demand3
pub mod OwnCuts
pub mod Promises

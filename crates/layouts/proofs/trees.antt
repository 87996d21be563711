-- Laws of cut trees: the cuts of a listing, their balance, and the weighted sums by which counts are compared with trees.
pub mod Tree
pub mod Pattern
pub mod Cuts
pub mod Stages
pub mod WeightedSums
pub mod Tally
pub mod Balance
pub mod CutTree
pub mod TreeItems

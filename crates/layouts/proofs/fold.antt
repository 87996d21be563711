-- Laws of the folding: the cuts of a layout, their counts, and the counts of an unfolded plan given back.
pub mod FoldCuts
pub mod FoldCounts
pub mod Back

-- Laws of lists: statements of every and of some element, and the two orders of folding.
pub mod Every
pub mod Sort

-- Laws of the unfolding: the search for a cut, the trees that it takes, and the machine that takes them with three pieces waiting.
pub mod Search
pub mod OwnCuts
pub mod NextSize
pub mod Greedy
pub mod GreedyEnds
pub mod Rising
pub mod MachineSteps
pub mod Machine
pub mod MachineItems
pub mod MachineEnds
pub mod MachineLines

-- The laws of this crate: the line row of numbers, words in lent buffers, lines and parts of a text.
pub mod CodeJudge
pub mod CodeWords
pub mod CodeLine
pub mod CodeJobLines
pub mod CodeText
pub mod CodeTurns
pub mod LineWithin
pub mod CodeSplits
pub mod CodeEnd
pub mod JobKept

-- The definitions of this crate: the bytes of lines, the shapes of lines, the reader of a text, the saw text and the fold text; and what holds of them.
pub mod Widths
pub mod Shape
pub mod Reader
pub mod JobLines
pub mod SawText
pub mod FoldText
pub mod Admitted
pub mod TextOf
pub mod Held
pub mod Printed
pub mod Refused
pub mod Shown
pub mod Rounds
pub mod TextLaws

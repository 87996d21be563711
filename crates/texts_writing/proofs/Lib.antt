-- The laws of this crate: one line written after another; placements and counts as lines; the saw program's output.
pub mod WroteLaws
pub mod RowLaws
pub mod CountLaws
pub mod SawOutput

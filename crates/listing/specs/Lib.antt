-- The definitions of this crate: plates and cuts and what a cut wastes, the walk that numbers them, what the listing of a job is, their records in lent buffers, the listing call.
pub mod Plate
pub mod Waste
pub mod Listing
pub mod Reached
pub mod Model
pub mod Numbering
pub mod WalkLaws
pub mod Records
pub mod Holds
pub mod CutRead
pub mod ListCall

-- The definitions of this crate: cuts in rising order of their pairs, and what the search's answer means.
pub mod Rising
pub mod Found

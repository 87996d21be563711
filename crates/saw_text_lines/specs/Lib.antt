-- The definitions of this crate: what is kept of a saw text so far, in a state and in lent buffers, and what a line makes of it.
pub mod SawKept

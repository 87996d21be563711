-- The definitions of this crate: what every check and every lent buffer shares, the stage mode, the job.
pub mod Sizes
pub mod Lists
pub mod Verdict
pub mod Refused
pub mod Lent
pub mod Buffers
pub mod Mode
pub mod Job
pub mod JobWords
pub mod Head
pub mod Admitted

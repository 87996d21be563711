-- The laws of this crate: refusals have a number above 0; what a call promises where its number is 0.
pub mod Numbers
pub mod LayoutNumbers
pub mod Promises

-- The laws of this crate: a text step by step, and in parts; what is kept is determined by the text.
pub mod SawSteps
pub mod LineSteps
pub mod PartSteps
pub mod HeldSame
pub mod SawSplits
pub mod WholeSteps
pub mod BodySteps
pub mod KnownNumber
pub mod PriceSteps

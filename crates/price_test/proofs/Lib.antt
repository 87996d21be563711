-- The laws of this crate: the price test on plain values.
pub mod CodePrices
pub mod CodePriceRows
pub mod CodePriceCall
pub mod CodeBound

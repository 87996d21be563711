-- The definitions of this crate: what the answer of the price test says.
pub mod PriceSays

-- The laws of this crate: what is kept with one line more, and what is known wherever a text is kept.
pub mod TakeLaws
pub mod PriceTakes
pub mod KeptSound

-- The laws of this crate: lines of layout words on plain values.
pub mod CodeLimits
pub mod CodePermitted
pub mod CodeTurns
pub mod CodeDemands

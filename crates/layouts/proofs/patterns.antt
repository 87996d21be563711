-- Laws of cut patterns and layouts: from one to the other and back, in folding's order.
pub mod PatternSteps
pub mod PatternRules
pub mod Order
pub mod OrderForm
pub mod OrderPattern

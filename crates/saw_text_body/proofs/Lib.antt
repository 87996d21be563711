-- The laws of this crate: lines 3 one after another, and their counts; the model once it is listed; which lines are admitted, and what they make of a text.
pub mod PlanLaws
pub mod CountLaws
pub mod PlanSteps
pub mod ModelLaws
pub mod BodyRows

-- Laws of the layout rules: what their tests decide, and that the rectangles lie inside their boards, any two of a board at least b apart.
pub mod RulesExact
pub mod RulesWords
pub mod Geometry

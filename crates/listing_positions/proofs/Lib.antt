-- The laws of the least sides and of the table.
pub mod Leasts
pub mod Tables

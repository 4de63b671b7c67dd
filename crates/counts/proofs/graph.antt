-- The laws of the tables of constraints. Assumes nothing.
pub mod Built
pub mod Placing
pub mod Sides

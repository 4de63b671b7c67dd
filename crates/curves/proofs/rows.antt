-- The laws of the rows of a grid. Assumes nothing.
pub mod Laws
pub mod Whole

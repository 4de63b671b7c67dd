-- The laws of the grid. Assumes nothing.
pub mod Laws
pub mod Filled
pub mod RowLaws

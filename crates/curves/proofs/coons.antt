-- The laws of the public functions of the grid. Assumes nothing.
pub mod Laws

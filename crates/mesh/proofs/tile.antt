-- The laws of the public functions. Assumes nothing.
pub mod Laws

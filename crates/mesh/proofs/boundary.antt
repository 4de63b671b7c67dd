-- The laws of loops. Assumes nothing.
pub mod Laws

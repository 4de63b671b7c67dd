-- The laws of the crossing. Assumes nothing.
pub mod Laws

-- The laws of the edge costs. Assumes nothing.
pub mod Laws
pub mod Ranges

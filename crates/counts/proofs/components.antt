-- The laws of the labels of edges. Assumes nothing.
pub mod Laws

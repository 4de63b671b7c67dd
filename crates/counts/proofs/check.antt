-- The laws of the tests. Assumes nothing.
pub mod Laws

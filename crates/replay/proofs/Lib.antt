-- The laws of the crate. Assumes nothing.
pub mod Filling

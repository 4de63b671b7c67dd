-- The definitions of the crate. Assumes nothing.
pub mod Counting

-- The definitions of the crate. Assumes nothing.
pub mod Root
pub mod Scalar
pub mod inner

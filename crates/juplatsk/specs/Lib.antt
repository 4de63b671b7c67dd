-- The definitions of the crate. Assumes nothing.
pub mod Limit
pub mod Stored
pub mod Version
pub mod inner

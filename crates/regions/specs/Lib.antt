-- The definitions of the crate. Assumes nothing.
pub mod Accept
pub mod Region
pub mod Turned
pub mod Written

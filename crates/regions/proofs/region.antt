-- The laws of the region records. Assumes nothing.
pub mod Constraints
pub mod Exchanged
pub mod Pairs

-- The laws of a solve. Assumes nothing.
pub mod Keeping
pub mod Loop

-- The definitions of the crate. Assumes nothing.
pub mod Answers
pub mod Buffers
pub mod Lists
pub mod Refusal
pub mod Tests

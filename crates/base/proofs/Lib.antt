-- The laws of the crate. Assumes nothing.
pub mod BoolLaws
pub mod BufferLaws
pub mod ListLaws
pub mod TestLaws
pub mod Turns

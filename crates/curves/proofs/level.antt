-- The laws of level and upright lines. Assumes nothing.
pub mod Laws

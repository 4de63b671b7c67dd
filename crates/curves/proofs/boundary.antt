-- The laws of the four boundary curves. Assumes nothing.
pub mod Laws

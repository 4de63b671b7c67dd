-- The laws of the patch. Assumes nothing.
pub mod Laws

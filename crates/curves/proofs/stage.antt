-- The laws of what is tested of a patch. Assumes nothing.
pub mod Laws

-- The laws of a mesh's indices. Assumes nothing.
pub mod Laws

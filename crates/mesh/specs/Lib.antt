-- The definitions of the crate. Assumes nothing.
pub mod Cases
pub mod Loop
pub mod Mesh
pub mod Tile
pub mod inner

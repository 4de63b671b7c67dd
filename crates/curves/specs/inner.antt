-- What the functions inside the crate tell each other: no public contract cites these. Assumes nothing.
pub mod Columns
pub mod Curves
pub mod Grids
pub mod Lays
pub mod Level
pub mod Rows
pub mod Segments

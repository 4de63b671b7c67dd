-- What the functions inside the crate tell each other: no public contract cites these. Assumes nothing.
pub mod Cells
pub mod Curves

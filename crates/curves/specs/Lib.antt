-- The definitions of the crate: what a reader holds against 01. Those below `inner` only the code needs. Assumes nothing.
pub mod Limits
pub mod Point
pub mod Curve
pub mod Boundary
pub mod Seam
pub mod Crossing
pub mod CoonsFormula
pub mod Patch
pub mod Quad
pub mod Grid
pub mod Stones
pub mod Coons
pub mod Lay
pub mod Strips
pub mod Demand
pub mod inner

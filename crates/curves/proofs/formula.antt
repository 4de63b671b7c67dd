-- The laws of Coons' formula. Assumes nothing.
-- what it is for, and where that holds
pub mod Boundary
pub mod Rings
pub mod Integers
-- what becomes of it where operations are rounded
pub mod Transfer
pub mod Unrounded
pub mod Edges
pub mod Bound
pub mod Corners
pub mod Cases

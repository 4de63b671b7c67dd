-- The laws of the tests of regions. Assumes nothing.
pub mod Laws
pub mod Record
pub mod Sides
pub mod ReadAlike
pub mod Faults
pub mod Turned

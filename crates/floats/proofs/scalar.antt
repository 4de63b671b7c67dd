-- The laws of the scalars. Assumes nothing.
pub mod Blends
pub mod Constants
pub mod Corner
pub mod Epsilon
pub mod Exact
pub mod Finite
pub mod Laws
pub mod Order
pub mod Sums

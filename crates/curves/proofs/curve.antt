-- The laws of the curves. Assumes nothing.
pub mod Halving
pub mod Ends
pub mod Laws
pub mod Near
pub mod Cases
pub mod Finite
pub mod Rise

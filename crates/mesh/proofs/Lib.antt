-- The laws that belong to no one module of the code. Assumes nothing.
pub mod Cases

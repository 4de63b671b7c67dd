-- The laws of the seams. Assumes nothing.
pub mod Laws
pub mod Even

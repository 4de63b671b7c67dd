-- The laws of lay. Assumes nothing.
pub mod Laws

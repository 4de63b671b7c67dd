-- Laws of a side's sum, and of constraints that hold. Assumes nothing.
pub mod Laws

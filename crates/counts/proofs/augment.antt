-- The laws of a round: its tables, the choice among the starts, changes made. Assumes nothing.
pub mod Applying
pub mod Finding
pub mod Laws

-- The laws of the search from one start. Assumes nothing.
pub mod Acts
pub mod Alike
pub mod Endings
pub mod Laws
pub mod Scan
pub mod Slots
pub mod Start
pub mod Steps
pub mod TwoSides
pub mod Used

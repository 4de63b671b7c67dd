-- What the functions inside the crate tell each other: no public contract cites these. Assumes nothing.
pub mod Checks
pub mod Components
pub mod Graph
pub mod RoundContract
pub mod SearchContract
pub mod Tables

-- The definitions of the crate: what a reader holds against 01 and 02. Those below `inner` only the code needs. Assumes nothing.
pub mod Cost
pub mod Demand
pub mod Move
pub mod MoveTest
pub mod OddMoves
pub mod Round
pub mod Search
pub mod Solver
pub mod Turned
pub mod Values
pub mod inner

-- The theorems, and the laws that belong to no one module of the code; the others stand by the modules. Assumes nothing.
-- the search: what it keeps is a unit move, and it meets every reading
pub mod MoveLaws
pub mod Accepted
pub mod Sound
pub mod Complete
pub mod Find
-- moves in general: listed in another order, that each has a reading, and the orders in which it can be read
pub mod Rearranged
pub mod ReadingFound
pub mod ReadingOrders
-- unit moves, by a test
pub mod MoveTest
pub mod OddMoves
-- a move made, and balance
pub mod Makes
pub mod Balance
-- the public functions, by the outcomes of their tests
pub mod SolverLaws
pub mod Entry
-- demand 3's solver half; solve's counts balance; equal ends
pub mod Rounds
pub mod Solving
pub mod EqualEnds
-- constraints with both sides empty
pub mod Skipped
-- places past a side's number; opposite sides exchanged
pub mod NeverRead
pub mod Turned

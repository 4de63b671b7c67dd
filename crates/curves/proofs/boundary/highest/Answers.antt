-- `boundary::highest` meets its contract. Assumes nothing.
use lib.Ieee.{neg, of_bits}
use Rattle.curves.specs.Boundary.{highest}
use Rattle.curves.proofs.boundary.highest.Goals as goal

pub returns : goal.returns
unfolding highest neg of_bits
returns c = simp (c.max.ensures, c.max-2.ensures, c.max-3.ensures, c.max-4.ensures)

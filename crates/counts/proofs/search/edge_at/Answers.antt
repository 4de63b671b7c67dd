-- `search::edge_at` meets its contract, by the side on which place j lies. Assumes nothing.
use native.Mathlib.Omega.{arith}
use Rattle.counts.proofs.search.TwoSides.{edge_opposite, edge_own}
use Rattle.counts.proofs.search.edge_at.Goals as goal

pub returns-then-j-split : goal.returns-then-j-split
returns-then-j-split c = edge_opposite c.requires.0 c.if-j-split.true c.number_at.ensures.0

pub returns-else-j-split : goal.returns-else-j-split
returns-else-j-split c = edge_own c.requires.0 (omega (arith, c.if-j-split.false)) c.requires.1 c.number_at-else-j-split.ensures.0

-- `place_edge` meets its contract: with two uses already the edge is only counted, and else it gets the slot of that number. Assumes nothing.
use mathlib.Core.Path.{refl}
use native.Mathlib.Omega.{arith}
use Rattle.counts.proofs.graph.Placing.{counted_edge, placed_edge}
use Rattle.counts.proofs.graph.place_edge.Goals as goal

pub returns-then-n-ge2 : goal.returns-then-n-ge2
returns-then-n-ge2 c = counted_edge c.requires refl c.if-n-ge2.true

pub returns : goal.returns
returns c = placed_edge c.requires refl (let h = c.if-n-ge2.false in omega (arith, h))

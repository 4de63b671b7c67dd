-- `seam::edge_values` meets its contract. Before each turn j values are written. Assumes nothing.
use Rattle.std.proofs.Common.{refl, arith}
use Rattle.curves.specs.Seam.{edge_value, edge_values}
use Rattle.curves.proofs.Filling.{fill_next, fill_done}
use Rattle.curves.proofs.seam.edge_values.Goals as goal

pub loop-j-preserved : goal.loop-j-preserved
unfolding edge_value
loop-j-preserved c = fill_next c.loop-j.invariant (omega arith) refl (omega arith) (rw (c.from.ensures, c.from-in-loop-j.ensures))

pub returns : goal.returns
unfolding edge_values
returns c = fill_done c.loop-j.invariant (omega arith)

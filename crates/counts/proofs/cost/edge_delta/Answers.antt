-- `counts::cost::edge_delta` meets its contract. The callees' results put into the definition. Assumes nothing.
use lib.Ieee.{sub}
use Rattle.counts.proofs.cost.edge_delta.Goals as goal

pub returns : goal.returns
unfolding sub
returns c = simp (c.squared_deviation.ensures, c.step.ensures)

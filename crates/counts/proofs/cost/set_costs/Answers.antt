-- `counts::cost::set_costs` meets its contract: what the edge costs before a change is worked out once for both. Assumes nothing.
use mathlib.Core.Path.{refl}
use Rattle.counts.specs.Cost.{range_delta}
use Rattle.counts.proofs.cost.set_costs.Goals as goal

pub returns : goal.returns
unfolding range_delta
returns c = (rw (c.edge_delta.ensures, c.edge_delta-2.ensures, c.squared_deviation-before.ensures), refl)

use Prim.Native.Nat.{◌-◌}
use lib.ListN.{length}
use Rattle.counts.specs.inner.Tables.{CostsFilled}
use Rattle.counts.specs.Cost.{by_ranges}
use Rattle.counts.proofs.cost.fill_costs.Given as goal

abbrev pub invariant-loop-e : goal.invariant-loop-e
invariant-loop-e l = CostsFilled l.e l.counts (by_ranges l.least l.most) l.costs l.allowed

abbrev pub decreases-loop-e : goal.decreases-loop-e
decreases-loop-e l = length l.counts - l.e

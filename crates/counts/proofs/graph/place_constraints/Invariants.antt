use Prim.Native.Nat.{◌-◌}
use lib.ListN.{take}
use Rattle.counts.specs.inner.Tables.{the_graph}
use Rattle.counts.specs.inner.Graph.{Filled}
use Rattle.counts.proofs.graph.place_constraints.Given as goal

abbrev pub invariant-loop-ci : goal.invariant-loop-ci
invariant-loop-ci l =
    Filled (the_graph l.regions) (take l.ci (the_graph l.regions)) l.incident l.own l.uses

abbrev pub decreases-loop-ci : goal.decreases-loop-ci
decreases-loop-ci l = l.m - l.ci

use Prim.Native.Nat.{◌-◌}
use lib.ListN.{take}
use Rattle.counts.specs.inner.Tables.{edges_on}
use Rattle.counts.specs.inner.Graph.{Placed}
use Rattle.counts.proofs.graph.place_side.Given as goal

abbrev pub invariant-loop-j : goal.invariant-loop-j
invariant-loop-j l =
    Placed l.ci l.s (take l.j (edges_on l.regions l.s)) l.initial.incident l.initial.own l.initial.uses l.incident l.own l.uses

abbrev pub decreases-loop-j : goal.decreases-loop-j
decreases-loop-j l = l.count - l.j

use Prim.Native.Nat.{◌-◌}
use Rattle.counts.proofs.components.Laws.{Joining}
use Rattle.counts.proofs.components.join_constraints.Given as goal

abbrev pub invariant-loop-e : goal.invariant-loop-e
invariant-loop-e l = Joining l.incident l.marks l.e

abbrev pub decreases-loop-e : goal.decreases-loop-e
decreases-loop-e l = l.n - l.e

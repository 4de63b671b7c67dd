use Prim.Native.Nat.{◌-◌}
use Rattle.counts.proofs.components.Laws.{Taking}
use Rattle.counts.proofs.components.take_marks.Given as goal

abbrev pub invariant-loop-e : goal.invariant-loop-e
invariant-loop-e l = Taking l.incident l.marks l.labels l.e

abbrev pub decreases-loop-e : goal.decreases-loop-e
decreases-loop-e l = l.n - l.e

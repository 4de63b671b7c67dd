use Prim.Native.Nat.{◌-◌}
use Rattle.counts.specs.inner.Tables.{max_constraints}
use Rattle.counts.proofs.components.Laws.{Renaming}
use Rattle.counts.proofs.components.rename.Given as goal

abbrev pub invariant-loop-i : goal.invariant-loop-i
invariant-loop-i l = Renaming l.initial.marks l.from l.to l.marks l.i

abbrev pub decreases-loop-i : goal.decreases-loop-i
decreases-loop-i l = max_constraints - l.i

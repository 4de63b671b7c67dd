use Prim.Native.Nat.{◌-◌}
use mathlib.Core.Path.{◌≡◌}
use lib.ListN.{length}
use Rattle.counts.specs.inner.Tables.{max_constraints}
use Rattle.counts.proofs.components.number_constraints.Given as goal

abbrev pub invariant-loop-i : goal.invariant-loop-i
invariant-loop-i l = length l.marks ≡ max_constraints

abbrev pub decreases-loop-i : goal.decreases-loop-i
decreases-loop-i l = max_constraints - l.i

use Prim.Native.Nat.{◌-◌}
use Rattle.counts.proofs.augment.Applying.{ChangesMade}
use Rattle.counts.proofs.augment.apply_changes.Given as goal

abbrev pub invariant-loop-i : goal.invariant-loop-i
invariant-loop-i l = ChangesMade l.initial.counts l.best l.len l.counts l.i

abbrev pub decreases-loop-i : goal.decreases-loop-i
decreases-loop-i l = l.len - l.i

use Prim.Native.Nat.{◌-◌}
use Rattle.counts.proofs.search.Slots.{Copied}
use Rattle.counts.proofs.search.keep_path.Given as goal

abbrev pub invariant-loop-i : goal.invariant-loop-i
invariant-loop-i l = Copied l.path l.initial.best l.depth l.best l.i

abbrev pub decreases-loop-i : goal.decreases-loop-i
decreases-loop-i l = l.depth - l.i

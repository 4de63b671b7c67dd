use Prim.Native.Nat.{◌-◌, ◌*◌}
use Rattle.counts.proofs.augment.Laws.{Choosing}
use Rattle.counts.proofs.augment.choose.Given as goal

abbrev pub invariant-loop-k : goal.invariant-loop-k
invariant-loop-k l = Choosing l.kept l.cut l.n l.out l.k

abbrev pub decreases-loop-k : goal.decreases-loop-k
decreases-loop-k l = l.n * 2 - l.k

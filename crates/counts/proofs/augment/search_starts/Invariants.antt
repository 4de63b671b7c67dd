use Prim.Native.Nat.{◌-◌, ◌*◌}
use Rattle.counts.specs.inner.RoundContract.{AllKnown}
use Rattle.counts.proofs.augment.search_starts.Given as goal

abbrev pub invariant-loop-c : goal.invariant-loop-c
invariant-loop-c l =
    AllKnown l.regions l.costs l.allowed l.limit l.c l.used l.path l.best l.kept l.cut l.known

abbrev pub decreases-loop-c : goal.decreases-loop-c
decreases-loop-c l = l.n * 2 - l.c

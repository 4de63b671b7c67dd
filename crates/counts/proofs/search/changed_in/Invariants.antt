use Prim.Native.Nat.{◌-◌, ◌/◌}
use Rattle.counts.specs.inner.SearchContract.{both_in}
use Rattle.counts.proofs.search.Scan.{Missed, Scanned}
use Rattle.counts.proofs.search.changed_in.Given as goal

abbrev pub invariant-loop-j : goal.invariant-loop-j
invariant-loop-j l = Missed (both_in l.regions l.sides) l.edge l.initial.found l.found l.j

abbrev pub decreases-loop-j : goal.decreases-loop-j
decreases-loop-j l = l.total - l.j

abbrev pub invariant-changes : goal.invariant-changes
invariant-changes l = Scanned (both_in l.regions l.sides) (l.slot / 2) l.path l.depth l.found l.i

abbrev pub decreases-changes : goal.decreases-changes
decreases-changes l = l.depth - l.i

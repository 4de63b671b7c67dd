use Prim.Native.Nat.{◌-◌}
use Rattle.counts.specs.Cost.{by_ranges}
use Rattle.counts.specs.Round.{max_moves}
use Rattle.counts.proofs.solve.Loop.{Progress}
use Rattle.counts.proofs.solve.moves_in.Given as goal

abbrev pub invariant-loop-limit : goal.invariant-loop-limit
invariant-loop-limit l =
    Progress l.regions (by_ranges l.ranges.least.now l.ranges.most.now) l.limit l.initial.counts l.counts l.moves l.costs l.allowed l.used l.path l.best l.kept l.cut l.known

abbrev pub decreases-loop-limit : goal.decreases-loop-limit
decreases-loop-limit l = max_moves - l.moves

use Rattle.regions.specs.Region.{places, region_count}
use Rattle.counts.proofs.constraint.Laws.{Holding}
use Rattle.counts.proofs.constraint.regions_hold.Given as goal

abbrev pub invariant-loop-r : goal.invariant-loop-r
invariant-loop-r l = Holding l.regions l.counts (region_count places l.regions) l.r

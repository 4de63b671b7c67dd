use Prim.Native.Nat.{◌-◌, ◌≤◌}
use lib.ListN.{length}
use Rattle.counts.specs.Cost.{by_ranges}
use Rattle.counts.specs.inner.Components.{Refreshed}
use Rattle.counts.proofs.components.refresh_component.Given as goal

abbrev pub invariant-loop-e : goal.invariant-loop-e
invariant-loop-e l =
    Refreshed l.e l.labels l.component l.counts (by_ranges l.least l.most) l.initial.costs l.initial.allowed l.initial.known l.costs l.allowed l.known × (l.e ≤ length l.counts)

abbrev pub decreases-loop-e : goal.decreases-loop-e
decreases-loop-e l = length l.counts - l.e

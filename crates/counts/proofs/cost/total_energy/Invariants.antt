use mathlib.Core.Path.{◌≡◌}
use Prim.Native.Nat.{◌-◌}
use lib.ListN.{length, drop}
use lib.Ieee.{binary64, of_bits}
use Rattle.counts.specs.Cost.{energy_from}
use Rattle.counts.proofs.cost.total_energy.Given as goal

abbrev pub invariant-loop-e : goal.invariant-loop-e
invariant-loop-e l = energy_from (of_bits binary64 0) l.counts l.ideals ≡ energy_from l.total (drop l.e l.counts) (drop l.e l.ideals)

abbrev pub decreases-loop-e : goal.decreases-loop-e
decreases-loop-e l = length l.counts - l.e

use Prim.Native.Nat.{◌+◌, ◌*◌, ◌<◌, ◌≤◌, ◌^◌}
use Rattle.floats.proofs.root.Scaled.short_root.Given as goal

abbrev pub invariant-loop-r : goal.invariant-loop-r
invariant-loop-r l = (l.self.n < (l.r + 1) * (l.r + 1)) × (l.r ≤ 2 ^ 29)

abbrev pub decreases-loop-r : goal.decreases-loop-r
decreases-loop-r l = l.r

use mathlib.Core.Path.{◌≡◌}
use Prim.Native.Nat.{ℕ, ◌-◌, ◌<◌}
use lib.Ieee.{Float}
use Rattle.curves.specs.Curve.{ArcCurve, knot_count, segment_at}
use Rattle.curves.proofs.curve.Halving.{halved}
use Rattle.curves.proofs.curve.segment_at.Given as goal

pub record Turn (c : ArcCurve) (target : Float) (lo hi : ℕ) : Type 0 where
  pub apart : lo < hi
  pub there : hi < knot_count c
  pub same : halved c target lo hi ≡ segment_at c target

abbrev pub invariant-loop-hi : goal.invariant-loop-hi
invariant-loop-hi l = Turn l.knots l.target l.lo l.hi

abbrev pub decreases-loop-hi : goal.decreases-loop-hi
decreases-loop-hi l = l.hi - l.lo

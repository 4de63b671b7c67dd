use mathlib.Core.Path.{◌≡◌}
use Prim.Native.Nat.{ℕ, ◌-◌, ◌<◌}
use lib.ListN.{length}
use Rattle.curves.specs.Curve.{point_count, knot_of, knot}
use Rattle.curves.proofs.curve.fill_knots.Given as goal

abbrev pub invariant-loop-k : goal.invariant-loop-k
invariant-loop-k l =
    record {
      last_is : l.knot ≡ knot_of l.points (l.k - 1);
      room : length l.knots ≡ point_count l.points;
      there : (i : ℕ) → i < l.k → knot l.knots i ≡ knot_of l.points i;
    }

use Prim.Native.Nat.{ℕ, ◌<◌}
use mathlib.Core.Path.{◌≡◌}
use lib.ListN.{length, get_or}
use Rattle.curves.specs.Point.{no_point}
use Rattle.curves.specs.inner.Columns.{patch_point, no_column}
use Rattle.curves.proofs.columns.level_points.Given as goal

abbrev pub invariant-loop-i : goal.invariant-loop-i
invariant-loop-i l =
    record {
      each : length l.points ≡ length l.columns;
      holds : (k : ℕ) → k < l.i → get_or l.points k no_point ≡ patch_point (get_or l.columns k no_column) l.row l.v;
    }

use Prim.Native.Nat.{ℕ, ◌<◌}
use mathlib.Core.Path.{◌≡◌}
use lib.ListN.{length, get_or}
use lib.Ieee.{nan}
use Rattle.floats.specs.Scalar.{clamp_unit}
use Rattle.curves.specs.inner.Columns.{column_at, no_column}
use Rattle.curves.proofs.columns.fill_columns.Given as goal

abbrev pub invariant-loop-i : goal.invariant-loop-i
invariant-loop-i l =
    record {
      each : length l.columns ≡ length l.seam;
      holds : (k : ℕ) → k < l.i → get_or l.columns k no_column ≡ column_at l.patch (clamp_unit (get_or l.seam k nan));
    }

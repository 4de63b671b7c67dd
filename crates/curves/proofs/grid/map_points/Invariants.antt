use Prim.Native.Nat.{ℕ, ◌<◌, ◌≤◌}
use mathlib.Core.Path.{◌≡◌}
use lib.ListN.{length}
use Rattle.curves.specs.Patch.{coons_point}
use Rattle.curves.specs.inner.Curves.{curves_of}
use Rattle.curves.specs.inner.Rows.{point_in}
use Rattle.curves.proofs.grid.map_points.Given as goal

abbrev pub invariant-loop-p : goal.invariant-loop-p
invariant-loop-p l =
    let c = curves_of l.patch in
    record {
      each : length l.row ≡ length l.initial.row;
      holds : (k : ℕ) → k < l.p-index → point_in l.row k ≡ coons_point c (point_in l.initial.row k).x (point_in l.initial.row k).y;
      left : (k : ℕ) → l.p-index ≤ k → point_in l.row k ≡ point_in l.initial.row k;
    }

-- The patch by columns and rows, and a table of columns, which the rows of a grid share. How the code goes fast, and no more. Assumes nothing.
use Rattle.std.specs.Prelude.{◌≡◌, List, ℕ, ◌<◌, length, get_or, Float}
use Rattle.std.specs.Float.{nan, binary64}
use Rattle.std.specs.Float.Ieee.{sub}
use Rattle.floats.specs.Scalar.{one, clamp_unit}
use Rattle.curves.specs.Point.{no_point}
use Rattle.curves.specs.Curve.{ArcCurve, curve_at}
use Rattle.curves.specs.Patch.{lerp2, combined}
use Rattle.curves.specs.declared.point.Point.{Point}
use Rattle.curves.specs.declared.boundary.Ends.{Ends}
use Rattle.curves.specs.declared.boundary.Patch.{Patch}
use Rattle.curves.specs.declared.patch.Column.{Column}
use Rattle.curves.specs.declared.patch.Row.{Row}

-- ---- the patch's point in two steps, so that what u or v alone decides can be worked out once for many points

-- what u decides: it, the points of bottom and top, and of the straight lines between their ends
unfoldable pub column_on : ArcCurve → ArcCurve → Ends → Ends → Float → Column
unfolding sub curve_at lerp2
column_on bottom top b t u = record {
  u = u;
  bottom = curve_at bottom u;
  top = curve_at top (sub binary64 one u);
  low = lerp2 u b.start b.end;
  high = lerp2 u t.end t.start;
}

-- what v decides: the points of right and left
unfoldable pub row_on : ArcCurve → ArcCurve → Float → Row
unfolding sub curve_at
row_on right left v = record { right = curve_at right v; left = curve_at left (sub binary64 one v) }

-- the same of a patch, which holds its curves and those ends
abbrev pub column_at : Patch → Float → Column
column_at p u = column_on p.curves.bottom.knots.now p.curves.top.knots.now p.bottom p.top u

abbrev pub row_at : Patch → Float → Row
row_at p v = row_on p.curves.right.knots.now p.curves.left.knots.now v

unfoldable pub patch_point : Column → Row → Float → Point
unfolding lerp2 combined
patch_point column row v =
    combined (lerp2 v column.bottom column.top) (lerp2 column.u row.left row.right) (lerp2 v column.low column.high)

-- ---- the table

-- what stands past the last column
abbrev pub no_column : Column
no_column = record { u = nan; bottom = no_point; top = no_point; low = no_point; high = no_point }

-- the columns at the values of a seam
pub record Table (p : Patch) (seam : List Float) (columns : List Column) : Type 0 where
  pub each : length columns ≡ length seam
  pub holds : (i : ℕ) → i < length seam → get_or columns i no_column ≡ column_at p (clamp_unit (get_or seam i nan))

-- the points of columns on one row of the patch, of the parameter v
pub record LevelPoints (columns : List Column) (row : Row) (v : Float) (points : List Point) : Type 0 where
  pub each : length points ≡ length columns
  pub holds : (i : ℕ) → i < length columns → get_or points i no_point ≡ patch_point (get_or columns i no_column) row v

-- The patch in the steps of 000, and split into columns and rows. Assumes nothing.
use mathlib.Core.Path.{◌≡◌, refl}
use lib.Ieee.{Float, binary64, sub}
use Rattle.floats.specs.Scalar.{one}
use Rattle.curves.specs.Curve.{curve_at}
use Rattle.curves.specs.Boundary.{BoundaryCurves, curve_ends}
use Rattle.curves.specs.Patch.{coons_point, lerp2, combined}
use Rattle.curves.specs.inner.Columns.{column_on, row_on, patch_point}
use Rattle.curves.specs.declared.boundary.Ends.{Ends}

-- as 000 writes it: the points of bottom and top blended, those of left and right, and the ends of bottom and top
pub in_steps : (c : BoundaryCurves) (u v : Float)
    → coons_point c u v
    ≡ combined (lerp2 v (curve_at c.bottom u) (curve_at c.top (sub binary64 one u)))
    (lerp2 u (curve_at c.left (sub binary64 one v)) (curve_at c.right v))
    (lerp2 v (lerp2 u (curve_ends c.bottom).start (curve_ends c.bottom).end) (lerp2 u (curve_ends c.top).end (curve_ends c.top).start))
unfolding coons_point curve_ends lerp2 combined
in_steps c u v = refl

-- by a column and a row
pub split_patch : (c : BoundaryCurves) (u v : Float)
    → patch_point (column_on c.bottom c.top (curve_ends c.bottom) (curve_ends c.top) u) (row_on c.right c.left v) v ≡ coons_point c u v
unfolding coons_point curve_ends column_on row_on patch_point
split_patch c u v = refl

-- the same where the ends of bottom and top are held
pub patched : (c : BoundaryCurves) {b t : Ends} (u v : Float) → b ≡ curve_ends c.bottom → t ≡ curve_ends c.top
    → patch_point (column_on c.bottom c.top b t u) (row_on c.right c.left v) v ≡ coons_point c u v
patched c u v e f = rw (e, f) (split_patch c u v)

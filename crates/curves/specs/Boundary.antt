-- 000's `BoundaryCurves` and `checked_curves`, "the reference for joining and winding", each operation rounded once. Assumes nothing.
use Rattle.std.specs.Prelude.{Bool, ◌||◌, List, ℕ, Float}
use Rattle.std.specs.Float.{binary64}
use Rattle.std.specs.Float.Ieee.{sub, mul, neg, lt, le, of_bits}
use Rattle.base.specs.declared.verdict.Verdict.{Verdict}
use Rattle.base.specs.Refusal.{refused, then_test, refuse_if}
use Rattle.floats.specs.Scalar.{nought, one, e_9, float_abs, float_min, float_max}
use Rattle.curves.specs.Point.{signed_area}
use Rattle.curves.specs.Curve.{ArcCurve, arc_curve, curve_at, curve_test}
use Rattle.curves.specs.declared.point.Point.{Point}
use Rattle.curves.specs.declared.boundary.Ends.{Ends}
use Rattle.curves.specs.declared.sides.Sides.{Sides}

-- counter-clockwise: bottom left to right, right bottom to top, top right to left, left top to bottom
pub record BoundaryCurves : Type 0 where
  pub bottom : ArcCurve
  pub right : ArcCurve
  pub top : ArcCurve
  pub left : ArcCurve

abbrev pub boundary : ArcCurve → ArcCurve → ArcCurve → ArcCurve → BoundaryCurves
boundary bottom right top left = record { bottom = bottom; right = right; top = top; left = left }

-- the curves of these points
abbrev pub boundary_of : List Float → List Float → List Float → List Float → BoundaryCurves
boundary_of bottom right top left = boundary (arc_curve bottom) (arc_curve right) (arc_curve top) (arc_curve left)

-- where a curve begins and ends: at the parameters 0 and 1
unfoldable pub curve_ends : ArcCurve → Ends
unfolding curve_at
curve_ends c = record { start = curve_at c nought; end = curve_at c one }

abbrev pub boundary_ends : BoundaryCurves → Sides Ends
boundary_ends c = record { bottom = curve_ends c.bottom; right = curve_ends c.right; top = curve_ends c.top; left = curve_ends c.left }

-- ---- "curves apart": 16

abbrev pub infinity : Float
infinity = of_bits binary64 0x7ff0_0000_0000_0000

unfoldable pub lowest : Float → Float → Float → Float → Float
unfolding float_min
lowest a b c d = float_min (float_min (float_min (float_min infinity a) b) c) d

unfoldable pub highest : Float → Float → Float → Float → Float
unfolding neg float_max
highest a b c d = float_max (float_max (float_max (float_max (neg infinity) a) b) c) d

abbrev pub width : Float → Float → Float → Float → Float
width a b c d = sub binary64 (highest a b c d) (lowest a b c d)

-- 1e-9 times the larger of width and height of the corners, or of 1
unfoldable pub tolerance : Point → Point → Point → Point → Float
unfolding sub mul lowest highest
tolerance bl br tr tl =
    mul binary64 e_9
    (float_max (float_max (width bl.x br.x tr.x tl.x) (width bl.y br.y tr.y tl.y)) one)

unfoldable pub points_apart : Float → Point → Point → Bool
unfolding sub lt float_abs
points_apart allowed got expected =
    lt allowed (float_abs (sub binary64 got.x expected.x)) || lt allowed (float_abs (sub binary64 got.y expected.y))

unfoldable pub corner_test : Float → Point → Point → ℕ → Verdict
unfolding points_apart
corner_test allowed got expected corner = refuse_if (points_apart allowed got expected) (refused 16 corner 0)

-- ---- "corner area at or below 0": 17, which "lets by" a NaN

unfoldable pub winding_test : Point → Point → Point → Point → Verdict
unfolding le signed_area
winding_test bl br tr tl = refuse_if (le (signed_area bl br tr tl) nought) (refused 17 0 0)

-- ---- the whole

-- "corner 0 to 4", in the order of 000, which compares the left curve's first point with itself, and then the winding
unfoldable pub joined_test : Sides Ends → Float → Verdict
unfolding corner_test winding_test
joined_test e allowed =
    then_test (corner_test allowed e.right.start e.bottom.end 0)
    (then_test (corner_test allowed e.top.start e.right.end 1)
    (then_test (corner_test allowed e.top.end e.left.start 2)
    (then_test (corner_test allowed e.left.start e.left.start 3)
    (then_test (corner_test allowed e.left.end e.bottom.start 4)
    (winding_test e.bottom.start e.bottom.end e.right.end e.left.start)))))

unfoldable pub ends_test : Sides Ends → Verdict
unfolding joined_test tolerance
ends_test e = joined_test e (tolerance e.bottom.start e.bottom.end e.right.end e.left.start)

-- "curve by curve 13 to 15": "curves (..) carry their side's number"
unfoldable pub curves_test : List Float → List Float → List Float → List Float → Verdict
unfolding curve_test
curves_test bottom right top left = then_test (curve_test bottom 0) (then_test (curve_test right 1) (then_test (curve_test top 2) (curve_test left 3)))

-- "curve by curve 13 to 15, 16, 17"
unfoldable pub checked_curves : List Float → List Float → List Float → List Float → Verdict
unfolding curves_test curve_ends ends_test
checked_curves bottom right top left = then_test (curves_test bottom right top left) (ends_test (boundary_ends (boundary_of bottom right top left)))

-- Two curves worked out by the definition: one of three points, the last two 2^-600 apart, so that the last segment has the length 0; and one whose
-- blend at 1 misses its last point. Assumes nothing.
use mathlib.Core.Path.{◌≡◌, refl}
use mathlib.Core.List.{List, [], ◌∷◌}
use lib.Ieee.{Float, binary64, of_bits}
use Rattle.base.specs.Refusal.{passed}
use Rattle.floats.specs.Scalar.{nought, half, one}
use Rattle.curves.specs.Point.{point}
use Rattle.curves.specs.Curve.{point_at, arc_curve, between, curve_at, curve_test}

-- 2^-600
tiny : Float
tiny = of_bits binary64 0x1a70_0000_0000_0000

points : List Float
points = nought ∷ nought ∷ one ∷ nought ∷ one ∷ tiny ∷ []

accepted : curve_test points 0 ≡ passed
unfolding of_bits curve_test points tiny
accepted = refl

middle : curve_at (arc_curve points) half ≡ point half nought
unfolding of_bits curve_at arc_curve points tiny
middle = refl

-- the last point as it was given, and not (1, 0), which is what the blend of a segment of length 0 yields
ends_there : curve_at (arc_curve points) one ≡ point one tiny
unfolding of_bits curve_at arc_curve points tiny
ends_there = refl

blend_misses : between (arc_curve points) one ≡ point one nought
unfolding of_bits between arc_curve points tiny
blend_misses = refl

-- ---- Two points, (0.1, 0.7) and (0.3, -0.2). The blend at 1 misses the last one.

abbrev slanted : List Float
slanted =
    of_bits binary64 0x3fb9_9999_9999_999a
    ∷ of_bits binary64 0x3fe6_6666_6666_6666
    ∷ of_bits binary64 0x3fd3_3333_3333_3333
    ∷ of_bits binary64 0xbfc9_9999_9999_999a
    ∷ []

slanted_ends : curve_at (arc_curve slanted) one ≡ point_at slanted 1
unfolding of_bits curve_at arc_curve
slanted_ends = refl

slanted_blend : between (arc_curve slanted) one ≡ point (of_bits binary64 0x3fd3_3333_3333_3333) (of_bits binary64 0xbfc9_9999_9999_9998)
unfolding of_bits between arc_curve
slanted_blend = refl

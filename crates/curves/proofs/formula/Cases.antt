-- Patches that are accepted, worked out by the definition: one of curves that are apart within test 16's allowance, and one at whose bottom a
-- coordinate is lost; and corners that are not their stones bit for bit, which is why `CornerPeg` (specs/Stones) asks what it asks. Assumes nothing.
use mathlib.Core.Path.{◌≡◌, refl}
use mathlib.Core.Bool.{false}
use mathlib.Core.List.{List, [], ◌∷◌}
use Prim.Native.Nat.{◌^◌}
use lib.Ieee.{Float, binary64, fits, of_bits, round}
use Rattle.base.specs.Refusal.{passed}
use Rattle.base.specs.Answers.{good}
use Rattle.floats.specs.Scalar.{nought, half, one}
use Rattle.curves.specs.Point.{point}
use Rattle.curves.specs.Curve.{arc_curve, curve_at}
use Rattle.curves.specs.Boundary.{BoundaryCurves, boundary_of, curve_ends, checked_curves}
use Rattle.curves.specs.CoonsFormula.{Closed}
use Rattle.curves.specs.Patch.{rounded, curves_of, coons_point, lerp2}
use Rattle.curves.specs.Seam.{uniform_parameters}
use Rattle.curves.specs.Grid.{Seams, seams, row_of, grid_of}
use Rattle.curves.specs.Coons.{even_seams}
use Rattle.curves.proofs.formula.Edges.{ColumnOrdinary}

-- a curve of two points
abbrev from_to : Float → Float → Float → Float → List Float
from_to x y x' y' = x ∷ y ∷ x' ∷ y' ∷ []

-- ---- The unit square, but its left curve ends at (5e-10, 0) and its bottom one begins at (0, 0). The patch meets left and right and misses the bottom: by
-- the gap at its start, and by half of it in its middle.

-- 5e-10
gap : Float
gap = of_bits binary64 0x3e01_2e0b_e826_d695

gap_nearest : gap ≡ round binary64 false 5 (10 ^ 10)
unfolding gap round of_bits
gap_nearest = refl

-- 0.50000000025
half_and_half_gap : Float
half_and_half_gap = of_bits binary64 0x3fe0_0000_0022_5c18

half_and_half_gap_nearest : half_and_half_gap ≡ round binary64 false 50000000025 (10 ^ 11)
unfolding half_and_half_gap round of_bits
half_and_half_gap_nearest = refl

abbrev bottom : List Float
bottom = from_to nought nought one nought

abbrev right : List Float
right = from_to one nought one one

abbrev top : List Float
top = from_to one one nought one

abbrev left : List Float
left = from_to nought one gap nought

abbrev square : BoundaryCurves
square = boundary_of bottom right top left

square_accepted : checked_curves bottom right top left ≡ passed
unfolding of_bits checked_curves arc_curve gap
square_accepted = refl

begins : coons_point square nought nought ≡ point gap nought
unfolding of_bits coons_point arc_curve gap
begins = refl

middle : coons_point square half nought ≡ point half_and_half_gap nought
unfolding of_bits coons_point arc_curve gap half_and_half_gap
middle = refl

ends : coons_point square one nought ≡ point one nought
unfolding of_bits coons_point arc_curve gap
ends = refl

left_ends : curve_at square.left one ≡ point gap nought
unfolding of_bits curve_at arc_curve gap
left_ends = refl

bottom_begins : curve_at square.bottom nought ≡ point nought nought
unfolding of_bits curve_at arc_curve
bottom_begins = refl

bottom_middle : curve_at square.bottom half ≡ point half nought
unfolding of_bits curve_at arc_curve
bottom_middle = refl

-- ---- A closed square of side 2^53, whose bottom runs up its right side and comes in as far as x = 1 in its middle. There 2^53 is added to 1 and taken off
-- again, which leaves 0: just half a unit in the last place of the sum is lost, as much as Bound allows.

-- 2^53 and 2^52
side : Float
side = of_bits binary64 0x4340_0000_0000_0000

half_side : Float
half_side = of_bits binary64 0x4330_0000_0000_0000

abbrev dented_bottom : List Float
dented_bottom = side ∷ nought ∷ one ∷ half_side ∷ side ∷ side ∷ []

abbrev side_right : List Float
side_right = from_to side side nought side

abbrev side_top : List Float
side_top = from_to nought side nought nought

abbrev side_left : List Float
side_left = from_to nought nought side nought

abbrev dented : BoundaryCurves
dented = boundary_of dented_bottom side_right side_top side_left

dented_accepted : checked_curves dented_bottom side_right side_top side_left ≡ passed
unfolding of_bits checked_curves arc_curve side half_side
dented_accepted = refl

dented_closed : Closed rounded (curves_of dented)
unfolding of_bits curve_at arc_curve side half_side
dented_closed = record { bottom_right = refl; right_top = refl; top_left = refl; left_bottom = refl }

dented_ordinary : ColumnOrdinary dented half
unfolding fits of_bits curve_at curve_ends lerp2 arc_curve side half_side
dented_ordinary = record {
  bottom = record { held = record { x = tt; y = tt }; x = tt; y = tt };
  top = record { held = record { x = tt; y = tt }; x = tt; y = tt };
  low = record { held = record { x = tt; y = tt }; x = tt; y = tt };
  high = record { held = record { x = tt; y = tt }; x = tt; y = tt };
}

dent : curve_at dented.bottom half ≡ point one half_side
unfolding of_bits curve_at arc_curve side half_side
dent = refl

coordinate_lost : coons_point dented half nought ≡ point nought half_side
unfolding of_bits coons_point arc_curve side half_side
coordinate_lost = refl

-- ---- The lower left corner of a grid where the two stones there are a bit apart: (1 + 2^-52, 0) of the bottom and (1 + 2^-51, 0) of the left. The peg is
-- neither of them.

-- 1 + 2^-52, 1 + 2^-51 and 1 + 3 * 2^-52; 2
next_to_one : Float
next_to_one = of_bits binary64 0x3ff0_0000_0000_0001

second_to_one : Float
second_to_one = of_bits binary64 0x3ff0_0000_0000_0002

third_to_one : Float
third_to_one = of_bits binary64 0x3ff0_0000_0000_0003

two : Float
two = of_bits binary64 0x4000_0000_0000_0000

abbrev near_bottom : List Float
near_bottom = from_to next_to_one nought two nought

abbrev near_right : List Float
near_right = from_to two nought two one

abbrev near_top : List Float
near_top = from_to two one one one

abbrev near_left : List Float
near_left = from_to one one second_to_one nought

apart_accepted : checked_curves near_bottom near_right near_top near_left ≡ passed
unfolding of_bits checked_curves arc_curve next_to_one second_to_one two
apart_accepted = refl

neither_stone : grid_of (boundary_of near_bottom near_right near_top near_left) (even_seams 1 1) 0 0 ≡ good (point third_to_one nought)
unfolding of_bits row_of uniform_parameters arc_curve next_to_one second_to_one third_to_one two
neither_stone = refl

-- ---- A stone with the coordinate -0, the same bits in both curves. The peg's coordinate is +0 in one tile and -0 in another: the other stones decide.

minus_zero : Float
minus_zero = of_bits binary64 0x8000_0000_0000_0000

minus_one : Float
minus_one = of_bits binary64 0xbff0_0000_0000_0000

abbrev positive : BoundaryCurves
positive =
    boundary_of (from_to minus_zero nought one nought) (from_to one nought one one) (from_to one one nought one) (from_to nought one minus_zero nought)

sign_lost : grid_of positive (even_seams 1 1) 0 0 ≡ good (point nought nought)
unfolding of_bits row_of uniform_parameters arc_curve minus_zero
sign_lost = refl

abbrev turned : BoundaryCurves
turned =
    boundary_of (from_to minus_zero nought nought one) (from_to minus_zero one minus_one one) (from_to minus_one one minus_one nought)
    (from_to minus_one nought minus_zero nought)

sign_kept : grid_of turned (even_seams 1 1) 0 0 ≡ good (point minus_zero nought)
unfolding of_bits row_of uniform_parameters arc_curve minus_zero minus_one
sign_kept = refl

-- ---- The unit square on seams of which the bottom one begins at 5e-10: the first peg lies so far beside the corner stone.

abbrev late : Seams
late = seams (gap ∷ one ∷ []) (gap ∷ one ∷ []) (nought ∷ one ∷ []) (nought ∷ one ∷ [])

beside_corner : grid_of (boundary_of bottom right top (from_to nought one nought nought)) late 0 0 ≡ good (point gap nought)
unfolding of_bits row_of arc_curve gap
beside_corner = refl

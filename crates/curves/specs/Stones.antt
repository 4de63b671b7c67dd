-- 02, item 12: "Our curves must end on the surveyed stones", as claims on a curve that is accepted and on the four corner pegs of a grid. A curve's stones
-- are its first and its last point, as they were lent. proofs/Stones has the theorems. Assumes nothing.
use Rattle.std.specs.Prelude.{◌≡◌, Bool, true, not, ◌&&◌, cond, List, ℕ, ◌-◌, length, get_or, T, eqb, Float}
use Rattle.std.specs.Float.{nan, inf, fin}
use Rattle.std.specs.Float.Ieee.{lt, le, eq}
use Rattle.base.specs.Answers.{Answer, good}
use Rattle.floats.specs.Scalar.{nought, one, Moderate}
use Rattle.curves.specs.Curve.{point_count, point_at, arc_curve, between, curve_at}
use Rattle.curves.specs.Patch.{combined}
use Rattle.curves.specs.Grid.{Seams, Grid}
use Rattle.curves.specs.declared.point.Point.{Point}

abbrev pub first_stone : List Float → Point
first_stone points = point_at points 0

abbrev pub last_stone : List Float → Point
last_stone points = point_at points (point_count points - 1)

-- ---- a curve

-- "the clamped parameter 0 now returns the first point and 1 the last, bit for bit; values between go as before". -0 and all below 0 are clamped to a
-- zero, all above 1 to 1.
pub record OnStones (points : List Float) : Type 0 where
  pub first : (t : Float) → le t nought ≡ true → curve_at (arc_curve points) t ≡ first_stone points
  pub last : (t : Float) → le one t ≡ true → curve_at (arc_curve points) t ≡ last_stone points
  pub inside : (t : Float) → lt nought t ≡ true → lt t one ≡ true → curve_at (arc_curve points) t ≡ between (arc_curve points) t

-- ---- the corners of a grid, each by whether u is 1 there and whether v is: (false, false) is the lower left one, (true, false) the lower right one

-- the peg there, of n by m cells
abbrev pub corner_peg : Grid → ℕ → ℕ → Bool → Bool → Answer Point
corner_peg f n m i j = f (cond j m 0) (cond i n 0)

module _ (bottom right top left : List Float) (i j : Bool) where
  -- the stone there of bottom or top: "top right to left"
  abbrev pub stone_u : Point
  stone_u = cond j (cond i (first_stone top) (last_stone top)) (cond i (last_stone bottom) (first_stone bottom))

  -- and of left or right: "left top to bottom"
  abbrev pub stone_v : Point
  stone_v = cond i (cond j (last_stone right) (first_stone right)) (cond j (first_stone left) (last_stone left))

-- each coordinate an f64 below 2^1023 in size
pub record Stone (p : Point) : Type 0 where
  pub x : Moderate p.x
  pub y : Moderate p.y

-- the eight stones of four curves
pub record Surveyed (bottom right top left : List Float) : Type 0 where
  pub bottom_first : Stone (first_stone bottom)
  pub bottom_last : Stone (last_stone bottom)
  pub right_first : Stone (first_stone right)
  pub right_last : Stone (last_stone right)
  pub top_first : Stone (first_stone top)
  pub top_last : Stone (last_stone top)
  pub left_first : Stone (first_stone left)
  pub left_last : Stone (last_stone left)

-- not -0
abbrev pub not_minus_zero : Float → Bool
not_minus_zero nan = true
not_minus_zero (inf s) = true
not_minus_zero (fin s m e) = not (s && eqb m 0)

pub record NoMinusZero (p : Point) : Type 0 where
  pub x : T (not_minus_zero p.x)
  pub y : T (not_minus_zero p.y)

-- the same two numbers, where +0 and -0 are one
pub record SamePlace (p q : Point) : Type 0 where
  pub x : eq p.x q.x ≡ true
  pub y : eq p.y q.y ≡ true

-- what a corner peg is, by its two stones
pub record CornerPeg (answer : Answer Point) (a b : Point) : Type 0 where
  pub peg : Point
  pub there : answer ≡ good peg
  -- what the patch makes of them: their sum less the first, each rounded
  pub made : NoMinusZero a → NoMinusZero b → peg ≡ combined a b a
  -- where they are one stone without -0, the peg is the stone itself, bit for bit
  pub itself : b ≡ a → NoMinusZero a → peg ≡ a
  -- and where they are equal, it is equal to them, -0 or not
  pub in_place : SamePlace b a → SamePlace peg a

-- seams that begin at +0 and end at 1, opposite ones equally long. Even seams do so; others may miss 0 and 1 by 1e-9 (test 21), and a corner peg may
-- then lie beside its corner.
pub record Whole (seam : List Float) : Type 0 where
  pub begins : get_or seam 0 nan ≡ nought
  pub ends : get_or seam (length seam - 1) nan ≡ one

pub record WholeSeams (s : Seams) : Type 0 where
  pub bottom : Whole s.bottom
  pub top : Whole s.top
  pub left : Whole s.left
  pub right : Whole s.right
  pub across : length s.top ≡ length s.bottom
  pub along : length s.right ≡ length s.left

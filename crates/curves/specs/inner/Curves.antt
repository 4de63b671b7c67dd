-- The four curves of a patch as the functions hand them on. Assumes nothing.
use Rattle.std.specs.Prelude.{List, ℕ, ◌+◌, ◌≤◌, length, Float}
use Rattle.std.specs.Borrow.{Bor}
use Rattle.base.specs.declared.verdict.Verdict.{Verdict}
use Rattle.curves.specs.Curve.{ArcCurve, point_count}
use Rattle.curves.specs.Boundary.{BoundaryCurves, boundary, boundary_of, checked_curves}
use Rattle.curves.specs.Limits.{max_curve}
use Rattle.curves.specs.declared.boundary.Patch.{Patch}
use Rattle.curves.specs.declared.sides.Sides.{Sides}

-- ---- what is lent: a list of points for each side

-- the lists behind four references
abbrev pub lent : Sides (Bor (List Float)) → Sides (List Float)
lent s = record { bottom = s.bottom.now; right = s.right.now; top = s.top.now; left = s.left.now }

-- the curves of these points
abbrev pub curves_on : Sides (List Float) → BoundaryCurves
curves_on p = boundary_of p.bottom p.right p.top p.left

-- their tests
abbrev pub checked_on : Sides (List Float) → Verdict
checked_on p = checked_curves p.bottom p.right p.top p.left

-- no curve has more values than so many
pub record ShortCurves (limit : ℕ) (points : Sides (List Float)) : Type 0 where
  pub bottom : length points.bottom ≤ limit
  pub right : length points.right ≤ limit
  pub top : length points.top ≤ limit
  pub left : length points.left ≤ limit

-- how many knots they have
abbrev pub knots_on : Sides (List Float) → ℕ
knots_on p = point_count p.bottom + point_count p.right + point_count p.top + point_count p.left

-- curves that are not too long, and room for their knots
pub record KnotsFit (points : Sides (List Float)) (knots : ArcCurve) : Type 0 where
  pub short : ShortCurves max_curve points
  pub room : knots_on points ≤ length knots

-- ---- a patch

-- its curves
abbrev pub curves_of : Patch → BoundaryCurves
curves_of p = let c = p.curves in boundary c.bottom.knots.now c.right.knots.now c.top.knots.now c.left.knots.now

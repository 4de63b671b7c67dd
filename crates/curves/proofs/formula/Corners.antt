-- The rounded patch at its four corners, by coordinates: what floats' Corner has of numbers, with the ends of the curves. Assumes nothing.
use mathlib.Core.Path.{◌≡◌, ◌∙◌}
use mathlib.Core.Bool.{Bool, true, false}
use lib.Ieee.{Float}
use Rattle.curves.specs.Point.{point}
use Rattle.curves.specs.Boundary.{BoundaryCurves, curve_ends}
use Rattle.curves.specs.Patch.{coons_point, lerp2, combined}
use Rattle.curves.specs.declared.point.Point.{Point}
use Rattle.floats.proofs.scalar.Corner.{Eight, end, corner}
use Rattle.curves.proofs.patch.Laws.{in_steps}
use Rattle.curves.proofs.formula.Edges.{start_is, end_is, turned_start, turned_end}

-- one coordinate of the eight ends
abbrev pub eight : (Point → Float) → BoundaryCurves → Eight
eight get c = record {
  bottom_start = get (curve_ends c.bottom).start;
  bottom_end = get (curve_ends c.bottom).end;
  right_start = get (curve_ends c.right).start;
  right_end = get (curve_ends c.right).end;
  top_start = get (curve_ends c.top).start;
  top_end = get (curve_ends c.top).end;
  left_start = get (curve_ends c.left).start;
  left_end = get (curve_ends c.left).end;
}

abbrev pub xs : BoundaryCurves → Eight
xs = eight (λ (p : Point). p.x)

abbrev pub ys : BoundaryCurves → Eight
ys = eight (λ (p : Point). p.y)

pub at_corner : (c : BoundaryCurves) (i j : Bool) → coons_point c (end i) (end j) ≡ point (corner i j (xs c)) (corner i j (ys c))
unfolding lerp2 combined
at_corner c false false = in_steps c (end false) (end false) ∙ rw (start_is c.bottom, turned_end c.top, turned_end c.left, start_is c.right)
at_corner c true false = in_steps c (end true) (end false) ∙ rw (end_is c.bottom, turned_start c.top, turned_end c.left, start_is c.right)
at_corner c false true = in_steps c (end false) (end true) ∙ rw (start_is c.bottom, turned_end c.top, turned_start c.left, end_is c.right)
at_corner c true true = in_steps c (end true) (end true) ∙ rw (end_is c.bottom, turned_start c.top, turned_start c.left, end_is c.right)

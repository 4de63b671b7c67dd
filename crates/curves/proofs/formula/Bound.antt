-- How far the rounded patch may lie from its curves, at its four sides. One sum and one difference are made there (Edges), so in either coordinate of a
-- finite point it is at most half a unit in the last place of the sum, and half a unit in its own last place: from the curve's point on left and right,
-- and on bottom and top where the curves are closed to the bit (`near-..`); where they are not, from the point that bottom or top is missed at
-- (`off-..`). The sum is of the curve's point and a straight line's, so its unit grows with the distance from the origin: a small tile far out loses
-- more of itself. Cases has a coordinate that is lost whole. Assumes nothing.
use Prim.Native.Nat.{◌+◌}
use lib.Dec.{T}
use lib.Ieee.{Float, binary64, sub}
use lib.Ieee.Scale.{finite}
use Rattle.floats.specs.Scalar.{nought, one}
use Rattle.curves.specs.CoonsFormula.{Closed}
use Rattle.curves.specs.Curve.{curve_at}
use Rattle.curves.specs.Boundary.{BoundaryCurves, curve_ends}
use Rattle.curves.specs.Patch.{rounded, curves_of, coons_point, lerp2, combined}
use Rattle.curves.specs.declared.point.Point.{Point}
use Rattle.curves.proofs.formula.Unrounded.{Held}
use Rattle.floats.proofs.scalar.Sums.{unit, CombinedWithin, Within, sub_within, second_off, first_off}
use Rattle.curves.proofs.formula.Edges.{ColumnOrdinary, RowOrdinary, low_line, high_line, left_line, right_line, line_held}
use Rattle.curves.proofs.formula.Edges.{at_bottom, at_top, back_on_bottom, back_on_right, back_on_top, back_on_left}

pub record Finite (p : Point) : Type 0 where
  pub x : T (finite p.x)
  pub y : T (finite p.y)

-- r is p + q - w but for half a unit in the last place of p + q, as rounded, and half a unit in its own
pub record Near (p q w r : Point) : Type 0 where
  pub x : CombinedWithin binary64 p.x q.x w.x r.x (unit binary64 (rounded.add p q).x + unit binary64 r.x)
  pub y : CombinedWithin binary64 p.y q.y w.y r.y (unit binary64 (rounded.add p q).y + unit binary64 r.y)

-- r is p but for half a unit in the last place of `sum` and half a unit in its own
pub record Beside (p sum r : Point) : Type 0 where
  pub x : Within binary64 p.x r.x (unit binary64 sum.x + unit binary64 r.x)
  pub y : Within binary64 p.y r.y (unit binary64 sum.y + unit binary64 r.y)

near : {p q w : Point} → Held p → Held q → Held w → Finite (combined p q w) → Near p q w (combined p q w)
unfolding combined
near {p = p} {q = q} {w = w} f g h t = record {
  x = sub_within binary64 p.x q.x w.x f.x g.x h.x t.x;
  y = sub_within binary64 p.y q.y w.y f.y g.y h.y t.y;
}

beside_first : {p w r : Point} → Near p w w r → Beside p (rounded.add p w) r
beside_first n = record { x = second_off n.x; y = second_off n.y }

beside_second : {p w r : Point} → Near w p w r → Beside p (rounded.add w p) r
beside_second n = record { x = first_off n.x; y = first_off n.y }

-- ---- bottom and top

module _ {c : BoundaryCurves} {u : Float} (o : ColumnOrdinary c u) where
  pub off_bottom : Finite (coons_point c u nought)
      → Near (curve_at c.bottom u) (lerp2 u (curve_ends c.left).end (curve_ends c.right).start) (low_line c u) (coons_point c u nought)
  off_bottom h = rw (at_bottom o) (near o.bottom.held (line_held u _ _) (line_held u _ _) (rw (at_bottom o) at h))

  pub off_top : Finite (coons_point c u one)
      → Near (curve_at c.top (sub binary64 one u)) (lerp2 u (curve_ends c.left).start (curve_ends c.right).end) (high_line c u) (coons_point c u one)
  off_top h = rw (at_top o) (near o.top.held (line_held u _ _) (line_held u _ _) (rw (at_top o) at h))

  module _ (j : Closed rounded (curves_of c)) where
    pub near_bottom : Finite (coons_point c u nought)
        → Beside (curve_at c.bottom u) (rounded.add (curve_at c.bottom u) (low_line c u)) (coons_point c u nought)
    near_bottom h =
        let e = back_on_bottom o j in
        rw e (beside_first (near o.bottom.held (line_held u _ _) (line_held u _ _) (rw e at h)))

    pub near_top : Finite (coons_point c u one)
        → Beside (curve_at c.top (sub binary64 one u)) (rounded.add (curve_at c.top (sub binary64 one u)) (high_line c u)) (coons_point c u one)
    near_top h =
        let e = back_on_top o j in
        rw e (beside_first (near o.top.held (line_held u _ _) (line_held u _ _) (rw e at h)))

-- ---- left and right

module _ {c : BoundaryCurves} {v : Float} (o : RowOrdinary c v) where
  pub near_left : Finite (coons_point c nought v)
      → Beside (curve_at c.left (sub binary64 one v)) (rounded.add (left_line c v) (curve_at c.left (sub binary64 one v))) (coons_point c nought v)
  near_left h =
      let e = back_on_left o in
      rw e (beside_second (near (line_held v _ _) o.left.held (line_held v _ _) (rw e at h)))

  pub near_right : Finite (coons_point c one v)
      → Beside (curve_at c.right v) (rounded.add (right_line c v) (curve_at c.right v)) (coons_point c one v)
  near_right h =
      let e = back_on_right o in
      rw e (beside_second (near (line_held v _ _) o.right.held (line_held v _ _) (rw e at h)))

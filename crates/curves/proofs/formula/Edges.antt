-- The rounded patch at its four sides. Blending at 0 and at 1 rounds nothing (Unrounded), so what is left of the formula there is one sum and one
-- difference: the point of the curve, with a straight line added and taken off again. These two are all that is lost. Left and right come back so
-- whether or not the curves are closed; bottom and top where they are, to the bit, and else two different lines are added and taken off. Asked of the
-- numbers is that binary64 holds them and that none is NaN, infinite or -0. Assumes nothing.
use mathlib.Core.Path.{◌≡◌, refl, sym, ◌∙◌}
use lib.Ieee.{Float, binary64, sub, mul}
use lib.Ieee.Fits.{add-fits}
use Rattle.floats.specs.Scalar.{nought, one}
use Rattle.curves.specs.CoonsFormula.{Closed}
use Rattle.curves.specs.Curve.{ArcCurve, curve_at}
use Rattle.curves.specs.Boundary.{BoundaryCurves, curve_ends}
use Rattle.curves.specs.Patch.{rounded, curves_of, coons_point, lerp2, combined}
use Rattle.curves.specs.declared.point.Point.{Point}
use Rattle.curves.proofs.patch.Laws.{in_steps}
use Rattle.floats.proofs.scalar.Blends.{rest_nought, rest_one}
use Rattle.curves.proofs.formula.Unrounded.{Held, Ordinary, lerp2_nought, lerp2_one}

-- ---- what binary64 holds: the sum that a blend ends in

pub line_held : (t : Float) (a b : Point) → Held (lerp2 t a b)
unfolding lerp2
line_held t a b =
    let r = sub binary64 one t in
    record {
      x = add-fits binary64 (mul binary64 r a.x) (mul binary64 t b.x);
      y = add-fits binary64 (mul binary64 r a.y) (mul binary64 t b.y);
    }

-- ---- the ends of a curve

pub start_is : (k : ArcCurve) → curve_at k nought ≡ (curve_ends k).start
unfolding curve_ends
start_is k = refl

pub end_is : (k : ArcCurve) → curve_at k one ≡ (curve_ends k).end
unfolding curve_ends
end_is k = refl

pub turned_start : (k : ArcCurve) → curve_at k (sub binary64 one one) ≡ (curve_ends k).start
turned_start k = rw rest_one (start_is k)

pub turned_end : (k : ArcCurve) → curve_at k (sub binary64 one nought) ≡ (curve_ends k).end
turned_end k = rw rest_nought (end_is k)

-- ---- bottom and top

module _ (c : BoundaryCurves) (u : Float) where
  -- the straight lines between the ends of bottom, and of top
  abbrev pub low_line : Point
  low_line = lerp2 u (curve_ends c.bottom).start (curve_ends c.bottom).end

  abbrev pub high_line : Point
  high_line = lerp2 u (curve_ends c.top).end (curve_ends c.top).start

  pub record ColumnOrdinary : Type 0 where
    pub bottom : Ordinary (curve_at c.bottom u)
    pub top : Ordinary (curve_at c.top (sub binary64 one u))
    pub low : Ordinary low_line
    pub high : Ordinary high_line

module _ {c : BoundaryCurves} {u : Float} (o : ColumnOrdinary c u) where
  pub at_bottom : coons_point c u nought ≡ combined (curve_at c.bottom u) (lerp2 u (curve_ends c.left).end (curve_ends c.right).start) (low_line c u)
  at_bottom =
      let first = lerp2_nought o.bottom o.top in
      let third = lerp2_nought o.low o.high in
      in_steps c u nought ∙ rw (first, third, turned_end c.left, start_is c.right)

  pub at_top : coons_point c u one
      ≡ combined (curve_at c.top (sub binary64 one u)) (lerp2 u (curve_ends c.left).start (curve_ends c.right).end) (high_line c u)
  at_top =
      let first = lerp2_one o.bottom o.top in
      let third = lerp2_one o.low o.high in
      in_steps c u one ∙ rw (first, third, turned_start c.left, end_is c.right)

  -- where the curves are closed to the bit, one line is added and taken off

  pub back_on_bottom : Closed rounded (curves_of c) → coons_point c u nought ≡ combined (curve_at c.bottom u) (low_line c u) (low_line c u)
  back_on_bottom j =
      let from_left = sym (end_is c.left) ∙ j.left_bottom ∙ start_is c.bottom in
      let to_right = sym (start_is c.right) ∙ sym j.bottom_right ∙ end_is c.bottom in
      at_bottom ∙ rw (from_left, to_right)

  pub back_on_top : Closed rounded (curves_of c) → coons_point c u one ≡ combined (curve_at c.top (sub binary64 one u)) (high_line c u) (high_line c u)
  back_on_top j =
      let from_left = sym (start_is c.left) ∙ sym j.top_left ∙ end_is c.top in
      let to_right = sym (end_is c.right) ∙ j.right_top ∙ start_is c.top in
      at_top ∙ rw (from_left, to_right)

-- ---- left and right

module _ (c : BoundaryCurves) (v : Float) where
  -- the straight lines between the corners on the left, and on the right
  abbrev pub left_line : Point
  left_line = lerp2 v (curve_ends c.bottom).start (curve_ends c.top).end

  abbrev pub right_line : Point
  right_line = lerp2 v (curve_ends c.bottom).end (curve_ends c.top).start

  pub record RowOrdinary : Type 0 where
    pub left : Ordinary (curve_at c.left (sub binary64 one v))
    pub right : Ordinary (curve_at c.right v)
    pub bottom_start : Ordinary (curve_ends c.bottom).start
    pub bottom_end : Ordinary (curve_ends c.bottom).end
    pub top_start : Ordinary (curve_ends c.top).start
    pub top_end : Ordinary (curve_ends c.top).end

module _ {c : BoundaryCurves} {v : Float} (o : RowOrdinary c v) where
  pub back_on_left : coons_point c nought v ≡ combined (left_line c v) (curve_at c.left (sub binary64 one v)) (left_line c v)
  back_on_left =
      let second = lerp2_nought o.left o.right in
      let low = lerp2_nought o.bottom_start o.bottom_end in
      let high = lerp2_nought o.top_end o.top_start in
      in_steps c nought v ∙ rw (second, low, high, start_is c.bottom, turned_end c.top)

  pub back_on_right : coons_point c one v ≡ combined (right_line c v) (curve_at c.right v) (right_line c v)
  back_on_right =
      let second = lerp2_one o.left o.right in
      let low = lerp2_one o.bottom_start o.bottom_end in
      let high = lerp2_one o.top_end o.top_start in
      in_steps c one v ∙ rw (second, low, high, end_is c.bottom, turned_start c.top)

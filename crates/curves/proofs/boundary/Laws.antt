-- `checked_curves` by the outcomes of its tests, one after the other. Assumes nothing.
use mathlib.Core.Path.{◌≡◌, ap, ◌∙◌}
use mathlib.Core.List.{List}
use borrow.Author.Tests.{le-ltb}
use Prim.Native.Nat.{ℕ, ◌≤◌}
use lib.Ieee.{Float}
use Rattle.std.specs.Prelude.{Result, Ok, Err, IsOk}
use Rattle.base.specs.declared.verdict.Verdict.{Verdict}
use Rattle.base.specs.Refusal.{passed, verdict_of}
use Rattle.base.specs.declared.refusal.Refusal.{Refusal}
use Rattle.base.proofs.TestLaws.{chain_stops, chain_goes_on}
use Rattle.base.specs.Answers.{answered}
use Rattle.curves.specs.Curve.{ArcCurve, arc_curve, knot_count, curve_at, at_answer, curve_test}
use Rattle.curves.specs.Boundary.{boundary, boundary_ends, ends_test, curves_test, checked_curves}
use Rattle.curves.specs.inner.Curves.{curves_on, checked_on}
use Rattle.curves.specs.declared.boundary.Ends.{Ends}
use Rattle.curves.specs.declared.point.Point.{Point}
use Rattle.curves.specs.declared.sides.Sides.{Sides}

module _ (p : Sides (List Float)) where
  module _ (r : Refusal) where
    pub bottom_refused : verdict_of r ≡ curve_test p.bottom 0 → verdict_of r ≡ checked_on p
    unfolding checked_curves curves_test
    bottom_refused e = chain_stops r _ (chain_stops r _ e)

    pub right_refused : passed ≡ curve_test p.bottom 0 → verdict_of r ≡ curve_test p.right 1 → verdict_of r ≡ checked_on p
    unfolding checked_curves curves_test
    right_refused b e = chain_stops r _ (chain_stops r _ e ∙ chain_goes_on b)

    pub top_refused : passed ≡ curve_test p.bottom 0 → passed ≡ curve_test p.right 1 → verdict_of r ≡ curve_test p.top 2 → verdict_of r ≡ checked_on p
    unfolding checked_curves curves_test
    top_refused b q e = chain_stops r _ (chain_stops r _ e ∙ chain_goes_on q ∙ chain_goes_on b)

    pub left_refused : passed ≡ curve_test p.bottom 0 → passed ≡ curve_test p.right 1 → passed ≡ curve_test p.top 2 → verdict_of r ≡ curve_test p.left 3
        → verdict_of r ≡ checked_on p
    unfolding checked_curves curves_test
    left_refused b q t e = chain_stops r _ (e ∙ chain_goes_on t ∙ chain_goes_on q ∙ chain_goes_on b)

  -- the four curves pass, so the ends decide
  pub by_ends : passed ≡ curve_test p.bottom 0 → passed ≡ curve_test p.right 1 → passed ≡ curve_test p.top 2 → passed ≡ curve_test p.left 3
      → {v : Verdict} {e : Sides Ends} → e ≡ boundary_ends (curves_on p) → v ≡ ends_test e → v ≡ checked_on p
  unfolding checked_curves curves_test
  by_ends b q t l {v} {e} ends told = told ∙ ap ends_test ends ∙ chain_goes_on (l ∙ chain_goes_on t ∙ chain_goes_on q ∙ chain_goes_on b)

  -- the curves of these knots
  pub curves_are : {b r t l : ArcCurve} → b ≡ arc_curve p.bottom → r ≡ arc_curve p.right → t ≡ arc_curve p.top → l ≡ arc_curve p.left
      → boundary b r t l ≡ curves_on p
  curves_are b r t l = rw (b, r, t, l)

-- ---- a curve with a segment has a point at each parameter

pub at_good : (c : ArcCurve) (side : ℕ) (t : Float) (o : Result Point Refusal) → 2 ≤ knot_count c → answered o ≡ at_answer c side t → o ≡ Ok (curve_at c t)
unfolding at_answer
at_good c side t (Ok p) two e = let good = rw (le-ltb (knot_count c) 2 two) at e in cc
at_good c side t (Err r) two e = let good = rw (le-ltb (knot_count c) 2 two) at e in cc

pub at_is_ok : (c : ArcCurve) (side : ℕ) (t : Float) (o : Result Point Refusal) → 2 ≤ knot_count c → answered o ≡ at_answer c side t → IsOk o
at_is_ok c side t o two e = rw (at_good c side t o two e)

pub at_value : (c : ArcCurve) (side : ℕ) (t : Float) (o : Result Point Refusal) {p : Point} → 2 ≤ knot_count c → answered o ≡ at_answer c side t → o ≡ Ok p
    → p ≡ curve_at c t
at_value c side t o two e f = let good = at_good c side t o two e in cc

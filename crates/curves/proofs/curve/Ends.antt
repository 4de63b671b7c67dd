-- A curve by its parameter before it is clamped, which is where the code and the theorems take `curve_at` apart: at -0, 0 and all below it is the first
-- point, at 1 and all above the last, infinities too, and else it is blended. Assumes nothing.
use mathlib.Core.Path.{◌≡◌, refl, sym, ap, ◌∙◌}
use mathlib.Core.Bool.{true, false}
use Prim.Native.Nat.{ℕ, ◌-◌, ◌<◌, ◌≤◌}
use borrow.Author.Tests.{le-ltb, lt-ltb}
use lib.Ieee.{Float, lt, le, eq, of_bits}
use Rattle.base.specs.Refusal.{refused}
use Rattle.base.specs.Answers.{good, turned_away}
use Rattle.base.proofs.BoolLaws.{by_truth}
use Rattle.floats.specs.Scalar.{nought, one, clamp_unit}
use Rattle.curves.specs.Curve.{ArcCurve, knot_count, stored_point, between, curve_at, at_answer}
use Rattle.curves.specs.declared.point.Point.{Point}
use Rattle.floats.proofs.scalar.Order.{le_le, lt_le, le_not_lt, lt_is_le, lt_not_le, neither, eq_sym, eq_by_le, lt_not_eq}
use Rattle.floats.proofs.scalar.Laws.{impossible}

-- a curve with a segment is not refused
pub answered : (c : ArcCurve) (side : ℕ) (t : Float) {p : Point} → 2 ≤ knot_count c → p ≡ curve_at c t → good p ≡ at_answer c side t
unfolding at_answer
answered c side t h e = rw (le-ltb (knot_count c) 2 h) (ap good e)

-- and one without is 13
pub no_segment : (c : ArcCurve) (side : ℕ) (t : Float) → knot_count c < 2 → at_answer c side t ≡ turned_away (refused 13 side 0)
unfolding at_answer
no_segment c side t h = rw (lt-ltb (knot_count c) 2 h)

-- ---- 0 and 1

unit : lt nought one ≡ true
unfolding lt of_bits
unit = refl

zero_itself : eq nought nought ≡ true
unfolding eq of_bits
zero_itself = refl

one_itself : eq one one ≡ true
unfolding eq of_bits
one_itself = refl

one_not_zero : eq one nought ≡ false
unfolding eq of_bits
one_not_zero = refl

-- ---- the clamped parameter

-- where it is at most 0: below, it is clamped to 0, and else it is 0 or -0, which stays
module _ (t : Float) (h : le t nought ≡ true) where
  at_first : eq (clamp_unit t) nought ≡ true
  unfolding clamp_unit
  at_first =
      let under = le_not_lt t one (le_le t nought one h (lt_is_le nought one unit)) in
      by_truth (lt t nought) (λ e. rw e zero_itself) (λ e. rw (e, under) (eq_by_le t nought h e))

-- where it is at least 1: above, it is clamped to 1, and else it is 1
module _ (t : Float) (h : le one t ≡ true) where
  above : lt nought t ≡ true
  above = lt_le nought one t unit h

  not_under : lt t nought ≡ false
  not_under = le_not_lt nought t (lt_is_le nought t above)

  at_last : eq (clamp_unit t) one ≡ true
  unfolding clamp_unit
  at_last = by_truth (lt one t) (λ e. rw (not_under, e) one_itself) (λ e. rw (not_under, e) (eq_sym one t (eq_by_le one t h e)))

  not_first : eq (clamp_unit t) nought ≡ false
  unfolding clamp_unit
  not_first = by_truth (lt one t) (λ e. rw (not_under, e) one_not_zero) (λ e. rw (not_under, e) (lt_not_eq nought t above))

-- ---- the curve

unequal_turned : (x y : Float) → eq x y ≡ false → eq y x ≡ false
unequal_turned x y h = by_truth (eq y x) (λ e. impossible (sym h ∙ eq_sym y x e)) (λ e. e)

module _ (c : ArcCurve) (t : Float) where
  pub first_end : le t nought ≡ true → curve_at c t ≡ stored_point c 0
  unfolding curve_at
  first_end h = rw (at_first t h)

  pub last_end : le one t ≡ true → curve_at c t ≡ stored_point c (knot_count c - 1)
  unfolding curve_at
  last_end h = rw (not_first t h, at_last t h)

  -- else it is left as it is, a NaN too
  left_as_is : le t nought ≡ false → le one t ≡ false → curve_at c t ≡ between c t
  unfolding curve_at clamp_unit le
  left_as_is h k =
      let not_first = neither (lt t nought) (eq t nought) h in
      let not_last = neither (lt one t) (eq one t) k in
      rw (not_first.0, not_last.0, not_first.1, unequal_turned one t not_last.1)

  pub strictly_inside : lt nought t ≡ true → lt t one ≡ true → curve_at c t ≡ between c t
  strictly_inside h k = left_as_is (lt_not_le nought t h) (lt_not_le t one k)

  -- as the code has it
  pub unclamped : {p : Point} → le t nought ≡ false → le one t ≡ false → p ≡ between c t → p ≡ curve_at c t
  unclamped h k e = e ∙ sym (left_as_is h k)

-- A curve whose whole length is finite has finite points: a sum, a difference, a square or a root of what is not finite is not finite either, and
-- each point is an end of some segment. So the points of a curve need no look of their own where its length passes. Assumes nothing.
use mathlib.Core.Path.{◌≡◌, refl, sym, ap, subst, ◌∙◌}
use mathlib.Core.Bool.{true}
use mathlib.Core.List.{List}
use Prim.Native.Nat.{ℕ, zero, suc, ◌+◌, ◌-◌, ◌*◌, ◌/◌, ◌%◌, ◌<◌, ◌≤◌}
use native.Mathlib.Nat.{add-zero, add-suc}
use native.Mathlib.Omega.{arith}
use lib.ListN.{length, get_or, drop}
use lib.Dec.{T}
use lib.Ieee.{Float, nan, binary64, add, sub, mul}
use lib.Ieee.Fits.{and_l}
use Rattle.base.specs.Refusal.{passed}
use Rattle.base.proofs.BoolLaws.{T_true, true_T}
use Rattle.floats.specs.Scalar.{is_finite, is_positive}
use Rattle.curves.specs.Curve.{point_count, point_at, distance, length_to, total_length, all_finite, curve_test}
use Rattle.curves.specs.inner.Segments.{SoundLength}
use Rattle.curves.specs.declared.point.Point.{Point}
use Rattle.floats.proofs.scalar.Finite.{sum_first, sum_second, difference_first, difference_second, square_finite, root_finite}
use Rattle.curves.proofs.curve.Laws.{finite_next, finite_end, good_length}

-- ---- a distance

-- both coordinates
pub record FinitePoint (p : Point) : Type 0 where
  pub on_x : T (is_finite p.x)
  pub on_y : T (is_finite p.y)

module _ (p q : Point) (t : T (is_finite (distance p q))) where
  abbrev across : Float
  across = sub binary64 q.x p.x

  abbrev upward : Float
  upward = sub binary64 q.y p.y

  squares : T (is_finite (add binary64 (mul binary64 across across) (mul binary64 upward upward)))
  unfolding distance
  squares = root_finite binary64 _ t

  across_finite : T (is_finite across)
  across_finite = square_finite binary64 across (sum_first binary64 _ _ squares)

  upward_finite : T (is_finite upward)
  upward_finite = square_finite binary64 upward (sum_second binary64 _ _ squares)

  start_finite : FinitePoint p
  start_finite = record { on_x = difference_second binary64 _ _ across_finite; on_y = difference_second binary64 _ _ upward_finite }

  end_finite : FinitePoint q
  end_finite = record { on_x = difference_first binary64 _ _ across_finite; on_y = difference_first binary64 _ _ upward_finite }

-- ---- the points of one curve

-- before a finite length each is finite
pub before : (points : List Float) (k j : ℕ) → T (is_finite (length_to points (k + j))) → T (is_finite (length_to points k))
unfolding length_to
before points k zero t = subst (λ (n : ℕ). T (is_finite (length_to points n))) (add-zero k) t
before points k (suc j) t = before points k j (sum_first binary64 (length_to points (k + j)) _
    (subst (λ (n : ℕ). T (is_finite (length_to points n))) (add-suc k j) t))

step_finite : (points : List Float) (k : ℕ) → T (is_finite (length_to points (suc k))) → T (is_finite (distance (point_at points k) (point_at points (suc k))))
unfolding length_to
step_finite points k t = sum_second binary64 (length_to points k) _ t

module _ (points : List Float) (two : 2 ≤ point_count points) (t : T (is_finite (total_length points))) where
  -- the step from the point k
  step_at : (k : ℕ) → k + 1 < point_count points → T (is_finite (distance (point_at points k) (point_at points (suc k))))
  step_at k h =
      let last = point_count points - 1 in
      let e : last ≡ suc k + (last - suc k) = omega arith in
      step_finite points k (before points (suc k) (last - suc k) (subst (λ (m : ℕ). T (is_finite (length_to points m))) e t))

  point_finite : (k : ℕ) → k < point_count points → FinitePoint (point_at points k)
  point_finite zero h = start_finite _ _ (step_at zero (omega arith))
  point_finite (suc k) h = end_finite _ _ (step_at k (omega arith))

  -- each value is one of a point's two, where their number is even
  value_finite : length points % 2 ≡ 0 → (i : ℕ) → i < length points → is_finite (get_or points i nan) ≡ true
  value_finite even i h = go (i % 2) refl
    where
      k : ℕ
      k = i / 2

      p : FinitePoint (point_at points k)
      p = point_finite k (omega arith)

      go : (r : ℕ) → i % 2 ≡ r → is_finite (get_or points i nan) ≡ true
      go zero e = let s : 2 * k ≡ i = omega arith in ap (λ (n : ℕ). is_finite (get_or points n nan)) (sym s) ∙ T_true _ p.on_x
      go (suc r) e = let s : 2 * k + 1 ≡ i = omega arith in ap (λ (n : ℕ). is_finite (get_or points n nan)) (sym s) ∙ T_true _ p.on_y

  from_finite : length points % 2 ≡ 0 → (j i : ℕ) → i + j ≡ length points → all_finite (drop i points) ≡ true
  from_finite even zero i e = finite_end points i (omega arith)
  from_finite even (suc j) i e = finite_next points i (omega arith) (value_finite even i (omega arith)) ∙ from_finite even j (i + 1) (omega arith)

  points_finite : length points % 2 ≡ 0 → all_finite points ≡ true
  points_finite even = from_finite even (length points) 0 (omega arith)

positive_finite : (x : Float) → is_positive x ≡ true → T (is_finite x)
unfolding is_positive
positive_finite x e = and_l (is_finite x) _ (true_T _ e)

-- such a curve passes
pub length_passes : (points : List Float) (side : ℕ) {total : Float} → 2 ≤ point_count points → SoundLength total (length points) → total ≡ total_length points
    → passed ≡ curve_test points side
length_passes points side {total} two s e =
    let t = positive_finite (total_length points) (sym (ap is_positive e) ∙ s.positive) in
    good_length points side two (points_finite points two t s.even) e s.positive

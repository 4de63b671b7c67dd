-- In lengths that rise, the halving finds the one segment that holds the target, so that a hint which is that segment spares the halving. Assumes nothing.
use mathlib.Core.Path.{◌≡◌, refl, sym, subst, ◌∙◌}
use mathlib.Core.Bool.{Bool, true, false}
use Prim.Native.Nat.{ℕ, zero, suc, ◌+◌, ◌-◌, ◌/◌, ◌<◌, ◌≤◌}
use native.Mathlib.Omega.{arith}
use borrow.Author.Tests.{ltb-true, ltb-false}
use lib.Dec.{ltb}
use lib.Ieee.{Float, lt, le}
use Rattle.curves.specs.Curve.{ArcCurve, knot_count, length_at, segment_at}
use Rattle.curves.specs.inner.Segments.{Rising, InSegment}
use Rattle.floats.proofs.scalar.Order.{le_le, lt_le, lt_not_le}
use Rattle.curves.proofs.curve.Halving.{halved, whole, step_right, step_left, stop}

module _ (c : ArcCurve) (target : Float) (rises : Rising c) where
  -- before a length that is not above the target none is
  before : (i j : ℕ) → i + j < knot_count c → le (length_at c (i + j)) target ≡ true → le (length_at c i) target ≡ true
  before i zero h k = let e : i + 0 ≡ i = omega arith in subst (λ (n : ℕ). le (length_at c n) target ≡ true) e k
  before i (suc j) h k =
      let e : i + suc j ≡ i + j + 1 = omega arith in
      before i j (omega arith) (le_le (length_at c (i + j)) (length_at c (i + j + 1)) target (rises (i + j) (omega arith))
      (subst (λ (n : ℕ). le (length_at c n) target ≡ true) e k))

  -- after a length above the target each is
  after : (i j : ℕ) → i + j < knot_count c → lt target (length_at c i) ≡ true → lt target (length_at c (i + j)) ≡ true
  after i zero h k = let e : i ≡ i + 0 = omega arith in subst (λ (n : ℕ). lt target (length_at c n) ≡ true) e k
  after i (suc j) h k =
      let e : i + j + 1 ≡ i + suc j = omega arith in
      subst (λ (n : ℕ). lt target (length_at c n) ≡ true) e
      (lt_le target (length_at c (i + j)) (length_at c (i + j + 1)) (after i j (omega arith) k) (rises (i + j) (omega arith)))

  module _ (k : ℕ) (inside : InSegment c k target) where
    to_left : (m : ℕ) → m ≤ k → le (length_at c m) target ≡ true
    to_left m h =
        let e : k ≡ m + (k - m) = omega arith in
        before m (k - m) (omega (arith, inside.has_end)) (subst (λ (n : ℕ). le (length_at c n) target ≡ true) e inside.from_start)

    to_right : (m : ℕ) → k < m → m < knot_count c → le (length_at c m) target ≡ false
    to_right m h l =
        let e : k + 1 + (m - (k + 1)) ≡ m = omega arith in
        lt_not_le target (length_at c m) (subst (λ (n : ℕ). lt target (length_at c n) ≡ true) e (after (k + 1) (m - (k + 1)) (omega arith) inside.below_end))

    -- from any lo and hi around k; n bounds their distance
    found : (n lo hi : ℕ) → hi - lo ≤ n → lo ≤ k → k < hi → hi < knot_count c → halved c target lo hi ≡ k
    found zero lo hi h p q l = absurd (omega arith)
    found (suc n) lo hi h p q l = go (ltb 1 (hi - lo)) (ltb k ((lo + hi) / 2)) refl refl (found n)
      where
        go : (far left : Bool) → ltb 1 (hi - lo) ≡ far → ltb k ((lo + hi) / 2) ≡ left
            → ((lo' hi' : ℕ) → hi' - lo' ≤ n → lo' ≤ k → k < hi' → hi' < knot_count c → halved c target lo' hi' ≡ k)
            → halved c target lo hi ≡ k
        go false left e f next = let s = ltb-false 1 (hi - lo) e in let z : lo ≡ k = omega arith in stop c target lo hi s ∙ z
        go true true e f next =
            let s = ltb-true 1 (hi - lo) e in
            let u = ltb-true k ((lo + hi) / 2) f in
            step_left c target lo hi s (to_right ((lo + hi) / 2) u (omega arith)) ∙ next lo ((lo + hi) / 2) (omega arith) p u (omega arith)
        go true false e f next =
            let s = ltb-true 1 (hi - lo) e in
            let u = ltb-false k ((lo + hi) / 2) f in
            step_right c target lo hi s (to_left ((lo + hi) / 2) u) ∙ next ((lo + hi) / 2) hi (omega arith) u q l

    found_whole : k ≡ segment_at c target
    found_whole = let h = inside.has_end in sym (found (knot_count c - 1) 0 (knot_count c - 1) (omega arith) (omega arith) (omega arith) (omega arith)) ∙ whole c target

pub hinted : {c : ArcCurve} {target : Float} {k : ℕ} → Rising c → InSegment c k target → k ≡ segment_at c target
hinted {c} {target} {k} rises inside = found_whole c target rises k inside

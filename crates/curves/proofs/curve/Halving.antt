-- The halving does not depend on the number that bounds its steps, and goes one step as the code does. Assumes nothing.
use mathlib.Core.Path.{◌≡◌, refl, ap, ◌∙◌}
use mathlib.Core.Bool.{Bool, true, false, cond}
use Prim.Native.Nat.{ℕ, zero, suc, ◌+◌, ◌-◌, ◌/◌, ◌<◌, ◌≤◌}
use native.Mathlib.Omega.{arith}
use lib.Dec.{ltb}
use lib.Ieee.{Float, le}
use borrow.Author.Tests.{ltb-true, lt-ltb, le-ltb}
use Rattle.curves.specs.Curve.{ArcCurve, knot_count, length_at, halve, segment_at}

-- either half is shorter
narrower : (right : Bool) (lo hi : ℕ) → 1 < hi - lo → cond right hi ((lo + hi) / 2) - cond right ((lo + hi) / 2) lo < hi - lo
narrower true lo hi h = omega arith
narrower false lo hi h = omega arith

module _ (c : ArcCurve) (t : Float) where
  bound : (k m : ℕ) (b : Bool) (lo hi : ℕ) → ltb 1 (hi - lo) ≡ b → hi - lo ≤ k → hi - lo ≤ m → halve c t k b lo hi ≡ halve c t m b lo hi
  unfolding halve
  bound zero zero b lo hi e h i = refl
  bound zero (suc m) false lo hi e h i = refl
  bound zero (suc m) true lo hi e h i = let p = ltb-true 1 (hi - lo) e in absurd (omega arith)
  bound (suc k) zero false lo hi e h i = refl
  bound (suc k) zero true lo hi e h i = let p = ltb-true 1 (hi - lo) e in absurd (omega arith)
  bound (suc k) (suc m) false lo hi e h i = refl
  bound (suc k) (suc m) true lo hi e h i =
      let p = ltb-true 1 (hi - lo) e in
      let mid = (lo + hi) / 2 in
      let g = le (length_at c mid) t in
      let n = narrower g lo hi p in
      bound k m (ltb 1 (cond g hi mid - cond g mid lo)) (cond g mid lo) (cond g hi mid) refl (omega arith) (omega arith)

  -- as the code's loop has it: the distance of lo and hi bounds the steps
  abbrev pub halved : ℕ → ℕ → ℕ
  halved lo hi = halve c t (hi - lo) (ltb 1 (hi - lo)) lo hi

  -- from the whole curve it is the definition's
  pub whole : halved 0 (knot_count c - 1) ≡ segment_at c t
  unfolding segment_at
  whole = let e : knot_count c - 1 - 0 ≡ knot_count c - 1 = omega arith in ap (λ (k : ℕ). halve c t k (ltb 1 k) 0 (knot_count c - 1)) e

  step : (g : Bool) (lo hi : ℕ) → 1 < hi - lo → le (length_at c ((lo + hi) / 2)) t ≡ g → halved lo hi ≡ halved (cond g ((lo + hi) / 2) lo) (cond g hi ((lo + hi) / 2))
  unfolding halve
  step g lo hi h e =
      let m = (lo + hi) / 2 in
      let s : hi - lo ≡ suc (hi - lo - 1) = omega arith in
      let n = narrower g lo hi h in
      ap (λ (b : Bool). halve c t (hi - lo) b lo hi) (lt-ltb 1 (hi - lo) h)
      ∙ ap (λ (k : ℕ). halve c t k true lo hi) s
      ∙ ap (λ (x : Bool). halve c t (hi - lo - 1) (ltb 1 (cond x hi m - cond x m lo)) (cond x m lo) (cond x hi m)) e
      ∙ bound (hi - lo - 1) (cond g hi m - cond g m lo) (ltb 1 (cond g hi m - cond g m lo)) (cond g m lo) (cond g hi m) refl (omega arith) (omega arith)

  pub step_right : (lo hi : ℕ) → 1 < hi - lo → le (length_at c ((lo + hi) / 2)) t ≡ true → halved lo hi ≡ halved ((lo + hi) / 2) hi
  step_right lo hi h e = step true lo hi h e

  pub step_left : (lo hi : ℕ) → 1 < hi - lo → le (length_at c ((lo + hi) / 2)) t ≡ false → halved lo hi ≡ halved lo ((lo + hi) / 2)
  step_left lo hi h e = step false lo hi h e

  stopped : (k lo hi : ℕ) → halve c t k false lo hi ≡ lo
  unfolding halve
  stopped zero lo hi = refl
  stopped (suc k) lo hi = refl

  pub stop : (lo hi : ℕ) → hi - lo ≤ 1 → halved lo hi ≡ lo
  stop lo hi h = ap (λ (b : Bool). halve c t (hi - lo) b lo hi) (le-ltb 1 (hi - lo) h) ∙ stopped (hi - lo) lo hi

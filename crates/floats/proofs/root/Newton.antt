-- Newton's iteration: from any r above 0 the next guess is not below the whole root of n (`newton_above`).
-- With q = n / r the next guess is (r + q) / 2, and the square of what is a half more than that is at least r * (q + 1), which is above n: twice a product is at most the two squares
-- (`products`). Assumes nothing.
use mathlib.Core.Path.{◌≡◌, subst}
use Prim.Native.Nat.{ℕ, ◌+◌, ◌-◌, ◌*◌, ◌/◌, ◌^◌, ◌≤◌, ◌<◌}
use native.Mathlib.Nat.{lt_of_lt_of_le, mul-le-mul_left, mul-le-mul_right, div-lt_iff_lt-mul}
use native.Mathlib.Decide.{dec_le}
use native.Mathlib.Omega.{arith}
use Rattle.floats.specs.inner.RootSteps.{NotBelow}
use Rattle.floats.proofs.root.Squares.{whole_reaches}

-- ---- twice a product is at most the two squares

products : (a b : ℕ) → 2 * (a * b) ≤ a * a + b * b
products a b = either (dec_le a b)
  where
    -- b is a + d
    ordered : (a d : ℕ) → 2 * (a * (a + d)) ≤ a * a + (a + d) * (a + d)
    ordered a d = omega arith

    either : Dec (a ≤ b) → 2 * (a * b) ≤ a * a + b * b
    either (yes h) = subst (λ (x : ℕ). 2 * (a * x) ≤ a * a + x * x) (omega arith) (ordered a (b - a))
    either (no h) =
        let w : 2 * (b * a) ≤ b * b + a * a = subst (λ (x : ℕ). 2 * (b * x) ≤ b * b + x * x) (omega arith) (ordered b (a - b)) in
        omega arith

-- ---- a step from any r above 0

-- m is one more than the new guess: q is n / r, and r + q is below m twice
step : (n r q m : ℕ) → n < (q + 1) * r → r + q < 2 * m → n < m * m
step n r q m a b =
    let c : (r + q + 1) * r ≤ 2 * m * r = mul-le-mul_right r (omega arith) in
    omega (arith, products m r)
  where
    group : (r q : ℕ) → r + q + 1 ≡ r + (q + 1)
    group r q = omega arith

quotient : (n r : ℕ) → 0 < r → n < (n / r + 1) * r
quotient n r h = (div-lt_iff_lt-mul h).0 (omega arith)

pub newton_above : (n r : ℕ) → 2 ^ 52 ≤ n → n < 2 ^ 54 → 2 ^ 25 ≤ r → r ≤ 2 ^ 29 → NotBelow n ((r + n / r) / 2)
newton_above n r lo hi a b =
    let q = n / r in
    let g = (r + q) / 2 in
    let P : 0 < r = omega arith in
    let up : n < (g + 1) * (g + 1) = step n r q (g + 1) (quotient n r P) (omega arith) in
    let Q : q < 2 ^ 29 = (div-lt_iff_lt-mul P).1 (lt_of_lt_of_le hi (mul-le-mul_left (2 ^ 29) a)) in
    record { not_passed = up; lead = whole_reaches n g (2 ^ 26) up lo; near = omega arith }

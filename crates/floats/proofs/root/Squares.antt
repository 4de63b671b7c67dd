-- Squares, and whole parts of roots: `whole_root` of the definition is the whole part of the root (`whole_root_is`), and there is only one (`whole_unique`). Assumes nothing.
use mathlib.Core.Path.{◌≡◌, ap, ◌∙◌}
use mathlib.Core.Bool.{Bool, true, false, not, cond}
use Prim.Native.Nat.{ℕ, zero, suc, ◌+◌, ◌-◌, ◌*◌, ◌/◌, ◌^◌, ◌≤◌, ◌<◌}
use native.Mathlib.Nat.{lt_of_le_of_lt, lt_of_not-le, not-le_of_lt, mul-le-mul}
use native.Mathlib.Omega.{arith}
use lib.Dec.{T, leb, leb→le, nleb→lt}
use lib.Pow.{pow-add}
use Rattle.floats.specs.Root.{whole_root}
use Rattle.floats.specs.inner.RootSteps.{Whole, Splits}

-- ---- squares

pub square_mul : (a b : ℕ) → (a * b) * (a * b) ≡ (a * a) * (b * b)
square_mul a b = omega arith

pub square_mono : (a b : ℕ) → a ≤ b → a * a ≤ b * b
square_mono a b h = mul-le-mul h h

pub square_less : (a b : ℕ) → a < b → a * a < b * b
square_less a b h =
    let e : (a + 1) * (a + 1) ≤ b * b = square_mono (a + 1) b (omega arith) in
    omega arith

pub less_of_squares : (a b : ℕ) → a * a < b * b → a < b
less_of_squares a b h = lt_of_not-le (λ (g : b ≤ a). not-le_of_lt h (square_mono b a g))

-- ---- whole parts of roots

pub at_most : (a b : ℕ) → a < b + 1 → a ≤ b
at_most a b h = omega arith

-- a number whose square is not above n is not above the whole part of n's root
pub whole_reaches : (n s a : ℕ) → n < (s + 1) * (s + 1) → a * a ≤ n → a ≤ s
whole_reaches n s a h g = at_most a s (less_of_squares a (s + 1) (lt_of_le_of_lt g h))

pub whole_unique : (n s t : ℕ) → Whole n s → Whole n t → s ≡ t
whole_unique n s t a b =
    let p : s ≤ t = whole_reaches n t s b.not_passed a.reached in
    let q : t ≤ s = whole_reaches n s t a.not_passed b.reached in
    omega arith

pub whole_of_splits : (n s r : ℕ) → Splits n s r → Whole n s
whole_of_splits n s r w = record { reached = omega arith; not_passed = omega arith }

pub splits_of_whole : (n s : ℕ) → Whole n s → Splits n s (n - s * s)
splits_of_whole n s w = record { sum = omega arith; small = omega arith }

-- ---- `whole_root`: from the root of n / 4 to the root of n, a digit more

digit : (n q : ℕ) → Whole (n / 4) q → (b : Bool)
    → (T b → (2 * q + 1) * (2 * q + 1) ≤ n) → (T (not b) → n < (2 * q + 1) * (2 * q + 1)) → Whole n (cond b (2 * q + 1) (2 * q))
digit n q h true y z =
    record { reached = y tt; not_passed = omega arith }
digit n q h false y z =
    record { reached = omega arith; not_passed = z tt }

four_times : (d : ℕ) → 2 ^ (suc d + suc d) ≡ 4 * 2 ^ (d + d)
four_times d =
    let e : suc d + suc d ≡ 2 + (d + d) = omega arith in
    ap (λ (x : ℕ). 2 ^ x) e ∙ pow-add 2 2 (d + d)

pub whole_root_is : (d n : ℕ) → n < 2 ^ (d + d) → Whole n (whole_root d n)
unfolding whole_root
whole_root_is zero n h = record { reached = omega arith; not_passed = omega arith }
whole_root_is (suc d) n h =
    let q = whole_root d (n / 4) in
    let c = (2 * q + 1) * (2 * q + 1) in
    digit n q (whole_root_is d (n / 4) (quarter n (2 ^ (d + d)) (rw (← (four_times d)) h))) (leb c n) (leb→le c n) (nleb→lt c n)
  where
    quarter : (n p : ℕ) → n < 4 * p → n / 4 < p
    quarter n p h = omega arith

-- Zimmermann's Karatsuba square root, its one step: from the whole root s of n to that of n * 2 ^ 54, with twice as many digits, by one long division. With B = 2 ^ 27 and q, u the quotient
-- and the remainder of (n - s * s) * B by 2 * s, (s * B + q) ^ 2 is n * B * B - u * B + q * q. So s * B + q is the whole root if q * q is not above u * B, and else one less is
-- (`exact`, `over`; `mended` has both, as the code does). Assumes nothing.
use mathlib.Core.Path.{◌≡◌, ap}
use Prim.Native.Nat.{ℕ, ◌+◌, ◌-◌, ◌*◌, ◌/◌, ◌%◌, ◌^◌, ◌≤◌, ◌<◌}
use native.Mathlib.Nat.{sub-zero, lt_of_le_of_lt, div-add-mod', mod-lt, div-lt_iff_lt-mul}
use native.Mathlib.Omega.{arith}
use lib.Ieee.Positive.{first_pos}
use borrow.Author.Tests.{ltb-true, ltb-false}
use lib.Dec.{ltb}
use mir.Val.{bool_byte}
use Rattle.base.proofs.BoolLaws.{by_truth}
use Rattle.floats.specs.inner.RootSteps.{Whole, Splits}
use Rattle.floats.proofs.root.Squares.{square_mono, less_of_squares, whole_reaches, at_most}

-- ---- the long division

pub record Long (n s q u : ℕ) : Type 0 where
  pub whole : Whole n s
  pub lead : 2 ^ 26 ≤ s
  pub below : s < 2 ^ 27
  pub rest : n - s * s ≤ 2 * s
  pub split : q * (s * 2) + u ≡ (n - s * s) * 2 ^ 27
  pub less : u < s * 2
  pub few : q ≤ 2 ^ 27

pub long : (n s : ℕ) → 2 ^ 52 ≤ n → n < 2 ^ 54 → Whole n s → Long n s ((n - s * s) * 2 ^ 27 / (s * 2)) ((n - s * s) * 2 ^ 27 % (s * 2))
long n s lo hi w =
    let v = (n - s * s) * 2 ^ 27 in
    let d = s * 2 in
    let a : 2 ^ 26 ≤ s = whole_reaches n s (2 ^ 26) w.not_passed lo in
    let b : s < 2 ^ 27 = less_of_squares s (2 ^ 27) (lt_of_le_of_lt w.reached hi) in
    let r : n - s * s ≤ 2 * s = omega arith in
    let D : 0 < d = omega arith in
    let f : v < (2 ^ 27 + 1) * d = omega arith in
    record { whole = w; lead = a; below = b; rest = r; split = div-add-mod' v d; less = mod-lt v D; few = at_most (v / d) (2 ^ 27) ((div-lt_iff_lt-mul D).1 f) }

-- ---- the whole root, or one more: o is 1 where the long division gave one too many, else 0

pub few_square : (q : ℕ) → q ≤ 2 ^ 27 → q * q ≤ 2 ^ 54
few_square q h = square_mono q (2 ^ 27) h

pub record Mended (n s q u o : ℕ) : Type 0 where
  pub room : q * q ≤ u * 2 ^ 27 + o * ((s * 2 ^ 27 + q) * 2 - 1)
  pub splits : Splits (n * 2 ^ 54) (s * 2 ^ 27 + q - o) (u * 2 ^ 27 + o * ((s * 2 ^ 27 + q) * 2 - 1) - q * q)

exact : (n s q u : ℕ) → Long n s q u → q * q ≤ u * 2 ^ 27 → Mended n s q u 0
exact n s q u l h = record { room = omega arith; splits = rw sub-zero (record { sum = omega arith; small = omega arith }) }

over : (n s q u : ℕ) → Long n s q u → u * 2 ^ 27 < q * q → Mended n s q u 1
over n s q u l h =
    let few = few_square q l.few in
    let some : 0 < q = first_pos q q (omega arith) in
    let t = s * 2 ^ 27 + q - 1 in
    let e : s * 2 ^ 27 + q ≡ t + 1 = omega arith in
    let f : (s * 2 ^ 27 + q) * (s * 2 ^ 27 + q) ≡ (t + 1) * (t + 1) = ap (λ (x : ℕ). x * x) e in
    record { room = omega arith; splits = record { sum = omega arith; small = omega arith } }

pub mended : (n s q u o : ℕ) → Long n s q u → o ≡ bool_byte (ltb (u * 2 ^ 27) (q * q)) → Mended n s q u o
mended n s q u o l e =
    rw e
    (by_truth (ltb (u * 2 ^ 27) (q * q))
    (λ t. rw t (over n s q u l (ltb-true _ _ t)))
    (λ t. rw t (exact n s q u l (ltb-false _ _ t))))

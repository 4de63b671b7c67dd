-- The quick way. Where s * s is a little below n * 2 ^ 10, and q is the quotient of what is left by 2 * s, to the nearest, d = s * 2 ^ 21 + q is the whole number nearest to the root of
-- n * 2 ^ 52 (`to_nearest`): with the remainder u, n * 2 ^ 52 is d * d - q * q + (u - s) * 2 ^ 21, and u is from 0 to 2 * s, q * q small. And the nearest whole number is what taking apart
-- and rounding give (`found`): the whole root of 54 digits is 2 * d, or it is 2 * d - 1 and there is a rest. Assumes nothing.
use mathlib.Core.Path.{◌≡◌, ap, ◌∙◌}
use Prim.Native.Nat.{ℕ, zero, suc, ◌+◌, ◌-◌, ◌*◌, ◌/◌, ◌%◌, ◌^◌, ◌≤◌, ◌<◌}
use native.Mathlib.Decide.{dec_le}
use native.Mathlib.Nat.{lt_of_not-le, mul-le-mul_left, div-add-mod', mod-lt, div-lt_iff_lt-mul}
use native.Mathlib.Numerals.{add-one}
use native.Mathlib.Omega.{arith}
use lib.Ieee.{binary64, of_bits}
use Rattle.floats.specs.Root.{Apart, rounded}
use Rattle.floats.specs.inner.RootSteps.{apart_of, Normal, Splits, ToNearest}
use Rattle.floats.proofs.root.Squares.{at_most}
use Rattle.floats.proofs.root.Assembled.{scaled, Taken, taken, Keeps, keeps_even, keeps_more, rounded_bits}

-- ---- the division, and the nearest whole number

pub record Quotient (n s left q u : ℕ) : Type 0 where
  pub sum : s * s + left ≡ n * 2 ^ 10
  pub split : q * (s * 2) + u ≡ left * 2 ^ 21 + s
  pub less : u < s * 2
  pub few : q ≤ 2 ^ 22

pub quotient : (n s left : ℕ) → 2 ^ 31 ≤ s → s * s + left ≡ n * 2 ^ 10 → left < s * 4
    → Quotient n s left ((left * 2 ^ 21 + s) / (s * 2)) ((left * 2 ^ 21 + s) % (s * 2))
quotient n s left lo e h =
    let v = left * 2 ^ 21 + s in
    let d = s * 2 in
    let D : 0 < d = omega arith in
    let f : v < (2 ^ 22 + 1) * d = omega arith in
    record { sum = e; split = div-add-mod' v d; less = mod-lt v D; few = at_most (v / d) (2 ^ 22) ((div-lt_iff_lt-mul D).1 f) }

pub to_nearest : (n s left q u : ℕ) → Quotient n s left q u → 2 ^ 23 ≤ u → ToNearest n (s * 2 ^ 21 + q)
to_nearest n s left q u k h =
    let j : q * q ≤ q * 2 ^ 22 = mul-le-mul_left q k.few in
    record { above = omega arith; below = omega arith }

-- ---- it is what rounding gives

-- the whole root of 54 digits with its rest, of which d is kept
record Halved (n d : ℕ) : Type 0 where
  whole : ℕ
  rest : ℕ
  splits : Splits (n * 2 ^ 54) whole rest
  keeps : Keeps whole rest d

halved : (n d : ℕ) → ToNearest n d → Halved n d
halved n d t = go (dec_le (d * d) (n * 2 ^ 52))
  where
    -- d is c + 1
    odd : (n c : ℕ) → n * 2 ^ 52 < (c + 1) * (c + 1) → (c + 1) * (c + 1) < n * 2 ^ 52 + (c + 1) → Halved n (c + 1)
    odd n c a b =
        let s = 2 * c + 1 in
        let r = n * 2 ^ 54 - s * s in
        let w : Splits (n * 2 ^ 54) s r = record { sum = omega arith; small = omega arith } in
        let half : s / 2 + 1 ≡ c + 1 = omega arith in
        record { whole = s; rest = r; splits = w; keeps = rw half at (keeps_more s r (λ e. omega arith) (omega arith)) }

    lower : (n d : ℕ) → n * 2 ^ 52 < d * d → d * d < n * 2 ^ 52 + d → Halved n d
    lower n zero a b = absurd (omega arith)
    lower n (suc c) a b = rw (← add-one) (odd n c (omega arith) (omega arith))

    go : Dec (d * d ≤ n * 2 ^ 52) → Halved n d
    go (yes h) =
        let r = 4 * (n * 2 ^ 52 - d * d) in
        let w : Splits (n * 2 ^ 54) (2 * d) r = record { sum = omega arith; small = omega arith } in
        let half : 2 * d / 2 ≡ d = omega arith in
        record { whole = 2 * d; rest = r; splits = w; keeps = rw half at (keeps_even (2 * d) r (omega arith)) }
    go (no h) = lower n d (lt_of_not-le h) t.above

-- r are the bits of the rounded root of the float with the bits b
pub record Found (b r : ℕ) : Type 0 where
  pub finite : r < 0x7ff0_0000_0000_0000
  pub is : of_bits binary64 r ≡ rounded binary64 (apart_of b)

pub found : (b m p d : ℕ) → b < 0x7ff0_0000_0000_0000 → Normal b m p → ToNearest (scaled m p) d → Found b (((p - 54) / 2 + 1) * 0x10_0000_0000_0000 + d)
found b m p d B N t =
    let w = halved (scaled m p) d t in
    let h = (p - 54) / 2 in
    let a : Taken b h w.whole w.rest = taken b m p w.whole w.rest B N w.splits in
    let k = w.keeps in
    record {
      finite = omega arith;
      is = rounded_bits h w.whole w.rest d a.lead a.full (omega arith) k ∙ ap (λ (y : Apart). rounded binary64 y) a.is;
    }

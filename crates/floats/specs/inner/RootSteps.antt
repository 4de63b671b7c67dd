-- What the steps of the code in src/root.rt ensure to each other. No public promise cites them. Assumes nothing.
use Rattle.std.specs.Prelude.{◌≡◌, ℕ, ◌+◌, ◌*◌, ◌^◌, ◌≤◌, ◌<◌}
use Rattle.std.specs.Float.{binary64}
use Rattle.std.specs.Float.Ieee.{of_bits}
use Rattle.floats.specs.Root.{radicand, Apart, apart}

-- the exact root of the float with the bits b
abbrev pub apart_of : ℕ → Apart
apart_of b = apart binary64 (of_bits binary64 b)

-- s is the whole part of the root of n
pub record Whole (n s : ℕ) : Type 0 where
  pub reached : s * s ≤ n
  pub not_passed : n < (s + 1) * (s + 1)

-- the same, with r what n has more than the square of s
pub record Splits (n s r : ℕ) : Type 0 where
  pub sum : s * s + r ≡ n
  pub small : r ≤ 2 * s

-- s is not below the whole root of n, which has 27 digits, and not far above
pub record NotBelow (n s : ℕ) : Type 0 where
  pub not_passed : n < (s + 1) * (s + 1)
  pub lead : 2 ^ 26 ≤ s
  pub near : s ≤ 2 ^ 29

-- m is a number of just 53 digits, and m * 2 ^ p is the square of the exact root of the float with the bits b, in units of the smallest value
pub record Normal (b m p : ℕ) : Type 0 where
  pub lead : 2 ^ 52 ≤ m
  pub full : m < 2 ^ 53
  pub low : 1022 ≤ p
  pub high : p ≤ 3119
  pub value : m * 2 ^ p ≡ radicand binary64 (of_bits binary64 b)

-- d is the whole number nearest to the root of n * 2 ^ 52: the squares of d - 1/2 and d + 1/2 are d * d - d and d * d + d, and a quarter
pub record ToNearest (n d : ℕ) : Type 0 where
  pub above : d * d < n * 2 ^ 52 + d
  pub below : n * 2 ^ 52 ≤ d * d + d

-- The square root of IEEE 754-2019: squareRoot of 5.4.1, rounded to nearest, ties to even (4.3.1). 01: "Square root, correctly rounded; -0 gives -0", "the root bounded exactly
-- over whole numbers". `Nearest` says what the correctly rounded root is, and `root` computes it, in the standard's order: special operands, the exact root taken apart into
-- exponent, whole root and rest, then one rounding. proofs/root/Correct.antt has the theorem that the two are one (`root_iff`). Assumes nothing.
use Rattle.std.specs.Prelude.{◌≡◌, ℕ, zero, suc, ◌+◌, ◌-◌, ◌*◌, ◌/◌, ◌^◌, ◌≤◌, ◌<◌, min, Bool, true, false, not, ◌&&◌, cond, T, leb, eqb, Float}
use Rattle.std.specs.Float.{nan, inf, fin, Format, binary64}
use Rattle.std.specs.Float.Ieee.{prec, low, up, down, size, round, fits}
use Rattle.base.specs.Answers.{Answer, good, turned_away}
use Rattle.base.specs.Refusal.{refused}

-- ---- what the root is

-- How many of the format's smallest values, each 2 ^ -low, a finite value is in size. Of a value that the format holds this is the whole of it: nothing is cut off.
unfoldable pub amount : Format → Float → ℕ
amount f nan = 0
amount f (inf s) = 0
amount f (fin s m e) = m * up e * 2 ^ low f / down e

-- With a smallest value u, x is (amount x) * u, and u is 2 ^ -low. So the exact root of x is √(radicand x) * u.
abbrev pub radicand : Format → Float → ℕ
radicand f x = amount f x * 2 ^ low f

-- y is one of the finite values that the format holds, +0 and up
unfoldable pub among : Format → Float → Bool
among f nan = false
among f (inf s) = false
among f (fin s m e) = not s && fits f (fin s m e)

-- 4.3.1: the value "nearest to the infinitely precise result". r is a finite value of the format, not below zero, and every other such value y lies further from the exact root,
-- none as far: the exact root lies on r's side of the middle between y and r. With both sides doubled and squared, whole numbers are compared.
-- So there is no tie to break, and the standard's rule for results past the largest value never applies, since a root is at most the larger of 1 and its operand.
pub record Nearest (f : Format) (x r : Float) : Type 0 where
  pub held : T (among f r)
  pub over_lower : (y : Float) → T (among f y) → amount f y < amount f r → (amount f y + amount f r) * (amount f y + amount f r) < 4 * radicand f x
  pub under_higher : (y : Float) → T (among f y) → amount f r < amount f y → 4 * radicand f x < (amount f r + amount f y) * (amount f r + amount f y)

-- The same by the unit in the last place: r is q * 2 ^ k smallest values, q has all the digits that the format keeps (or is the next number after those), so that 2 ^ k is the
-- unit of r's last digit, and the exact root lies less than half a unit from r. A half unit away it never lies.
pub record HalfUnit (f : Format) (x r : Float) : Type 0 where
  pub q : ℕ
  pub k : ℕ
  pub value : amount f r ≡ q * 2 ^ k
  pub lead : 2 ^ (prec f - 1) ≤ q
  pub full : q ≤ 2 ^ prec f
  pub above : (2 * q - 1) * 2 ^ k * ((2 * q - 1) * 2 ^ k) < 4 * radicand f x
  pub below : 4 * radicand f x < (2 * q + 1) * 2 ^ k * ((2 * q + 1) * 2 ^ k)

-- ---- how it is computed

-- the whole part of the root of n, for an n below 4 ^ d: a binary digit for each two of n
unfoldable pub whole_root : ℕ → ℕ → ℕ
whole_root zero n = 0
whole_root (suc d) n = let q = 2 * whole_root d (n / 4) in cond (leb ((q + 1) * (q + 1)) n) (q + 1) q

-- The exact root of a number, taken apart: it is √(whole * whole + rest) * 2 ^ exponent smallest values.
pub record Apart : Type 0 where
  pub exponent : ℕ
  pub whole : ℕ
  pub rest : ℕ

abbrev pub parted : ℕ → ℕ → ℕ → Apart
parted h s r = record { exponent = h; whole = s; rest = r }

-- a is the exact root of a number whose `radicand` is n, taken apart: `whole` is its whole part and has at least one digit more than the format keeps
pub record Parts (f : Format) (n : ℕ) (a : Apart) : Type 0 where
  pub value : (a.whole * a.whole + a.rest) * 2 ^ (a.exponent + a.exponent) ≡ n
  pub whole_part : a.rest ≤ 2 * a.whole
  pub digits : 2 ^ prec f ≤ a.whole

-- `radicand x` with an even number of its zeros taken off, so that its root has just one digit more than the format keeps
unfoldable pub apart : Format → Float → Apart
unfolding size whole_root amount
apart f x =
    let n = radicand f x in
    let h = (size n - (2 * prec f + 1)) / 2 in
    let a = n / 2 ^ (h + h) in
    let s = whole_root (suc (prec f)) a in
    record { exponent = h; whole = s; rest = a - s * s }

-- One rounding, by the format's own `round`. Where there is a rest, the root lies between whole and whole + 1, and a half stands for what is more than whole: no value of the
-- format and no middle of two lies in between.
unfoldable pub rounded : Format → Apart → Float
unfolding round
rounded f a = round f false ((2 * a.whole + min a.rest 1) * 2 ^ a.exponent) (2 * 2 ^ low f)

-- 5.4.1 and 6.3: a zero is its own root, with its sign. +infinity is its own root (6.1). NaN and numbers below zero have none: `nan` (6.2, 7.2).
unfoldable pub root : Format → Float → Float
unfolding apart rounded
root f nan = nan
root f (inf s) = cond s nan (inf false)
root f (fin s zero e) = fin s zero e
root f (fin true (suc m) e) = nan
root f (fin false (suc m) e) = rounded f (apart f (fin false (suc m) e))

-- ---- the public function

-- a NaN, or a number below zero, -0 not among them
unfoldable pub rootless : Float → Bool
rootless nan = true
rootless (inf s) = s
rootless (fin s m e) = s && not (eqb m 0)

-- "root of a NaN or a number below 0": 28, no places
unfoldable pub root_answer : Float → Answer Float
unfolding rootless root
root_answer x = cond (rootless x) (turned_away (refused 28 0 0)) (good (root binary64 x))

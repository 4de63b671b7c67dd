-- 000's constants, and Rust's helpers on f64 that 000 uses (01: "`clamp`, `min`, `max`, `abs`, `is_finite`: helpers"), bit for bit. Assumes nothing.
use Rattle.std.specs.Prelude.{◌≡◌, Bool, true, false, not, ◌&&◌, ◌||◌, cond, T, Float}
use Rattle.std.specs.Float.{nan, inf, fin, binary64}
use Rattle.std.specs.Float.Ieee.{add, neg, lt, le, ne, fits, of_bits}

-- ---- constants, as the code has them: by their bits

-- +0.0
abbrev pub nought : Float
nought = of_bits binary64 0

-- 0.5
abbrev pub half : Float
half = of_bits binary64 0x3fe0_0000_0000_0000

-- 1.0
abbrev pub one : Float
one = of_bits binary64 0x3ff0_0000_0000_0000

-- 1e-9, 1e-12 and 2e-12: "the nearest f64", which proofs/scalar/Constants.antt shows
abbrev pub e_9 : Float
e_9 = of_bits binary64 0x3e11_2e0b_e826_d695

abbrev pub e_12 : Float
e_12 = of_bits binary64 0x3d71_9799_812d_ea11

abbrev pub two_e_12 : Float
two_e_12 = of_bits binary64 0x3d81_9799_812d_ea11

-- ---- helpers

unfoldable pub is_finite : Float → Bool
is_finite nan = false
is_finite (inf s) = false
is_finite (fin s m e) = true

-- the sign is cleared
unfoldable pub float_abs : Float → Float
float_abs nan = nan
float_abs (inf s) = inf false
float_abs (fin s m e) = fin false m e

-- what 000 asks of a length and of an area: finite, and not at or below zero
unfoldable pub is_positive : Float → Bool
unfolding is_finite le
is_positive x = is_finite x && not (le x nought)

-- `a.min(b)`: a NaN gives way to the other. Of two equal values Rust may give either, and this is the first, as compiled Rust gives on x86-64: it tells only in the sign of a zero.
unfoldable pub float_min : Float → Float → Float
unfolding lt ne
float_min a b = cond (lt b a || ne a a) b a

unfoldable pub float_max : Float → Float → Float
unfolding lt ne
float_max a b = cond (lt a b || ne a a) b a

-- `x.clamp(0.0, 1.0)`: a NaN and -0 stay
unfoldable pub clamp_unit : Float → Float
unfolding lt
clamp_unit x = cond (lt x nought) nought (cond (lt one x) one x)

-- 000's test of parameters: finite, not below -1e-9, and not above 1 + 1e-9 as rounded
unfoldable pub in_unit : Float → Bool
unfolding is_finite add neg lt
in_unit x = is_finite x && (not (lt x (neg e_9)) && not (lt (add binary64 one e_9) x))

-- ---- what claims ask of a value; no code has it

-- 2^1023
abbrev pub two_1023 : Float
two_1023 = of_bits binary64 0x7fe0_0000_0000_0000

-- an f64 of less than 2^1023 in size: neither NaN nor infinite, and its double is an f64 too
pub record Moderate (x : Float) : Type 0 where
  pub held : T (fits binary64 x)
  pub small : lt (float_abs x) two_1023 ≡ true

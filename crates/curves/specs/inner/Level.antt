-- Lines of the logical grid that are level or upright, so that they cross just where they begin. How the code goes fast, and no more: no public
-- promise cites these. Assumes nothing.
use Rattle.std.specs.Prelude.{◌≡◌, true, false, List, ℕ, ◌<◌, T, ℤ, length, get_or, Float}
use Rattle.std.specs.Float.{nan, fin, binary64}
use Rattle.std.specs.Float.Ieee.{fits}
use Rattle.floats.specs.Scalar.{clamp_unit, in_unit}

-- a parameter in 0..1 that is not -0: no operation of the crossing on it and on zeros and ones is rounded
pub record Plain (x : Float) : Type 0 where
  pub digits : ℕ
  pub exponent : ℤ
  pub is : x ≡ fin false digits exponent
  pub held : T (fits binary64 x)
  pub inside : in_unit x ≡ true
  pub clamped : clamp_unit x ≡ x

-- a line whose two ends are one plain parameter
abbrev pub Straight : Float → Float → Type 0
Straight a b = (a ≡ b) × Plain a

-- all lines between two seams are upright
abbrev pub Upright : List Float → List Float → Type 0
Upright bottom top = (i : ℕ) → i < length bottom → Straight (get_or bottom i nan) (get_or top i nan)

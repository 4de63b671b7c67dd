-- 1e-9, 1e-12 and 2e-12 are "the nearest f64". Assumes nothing.
use mathlib.Core.Path.{◌≡◌, refl}
use mathlib.Core.Bool.{false}
use Prim.Native.Nat.{◌^◌}
use lib.Ieee.{binary64, round, of_bits}
use Rattle.floats.specs.Scalar.{e_9, e_12, two_e_12}

pub e_9_nearest : e_9 ≡ round binary64 false 1 (10 ^ 9)
unfolding round of_bits
e_9_nearest = refl

pub e_12_nearest : e_12 ≡ round binary64 false 1 (10 ^ 12)
unfolding round of_bits
e_12_nearest = refl

pub two_e_12_nearest : two_e_12 ≡ round binary64 false 2 (10 ^ 12)
unfolding round of_bits
two_e_12_nearest = refl

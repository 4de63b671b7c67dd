-- What the functions of src/scalar.rt compute, as their definitions have it. Assumes nothing.
use mathlib.Core.Path.{◌≡◌, refl, sym}
use mathlib.Core.Bool.{true, false, true≢false, not, ◌&&◌}
use Prim.Native.Nat.{◌*◌}
use Rattle.std.proofs.lemmas.Float.{le_of_eq, le_right, T_from_true}
use Rattle.std.specs.Float.{float_with_sign}
use lib.Dec.{T}
use lib.Ieee.{Float, nan, inf, fin, binary64, of_bits, to_bits, lt, eq, ne, is_nan, up, down, fits}
use lib.Ieee.Bits.{of_bits-to_bits}
use Rattle.base.proofs.BoolLaws.{same→eqb}
use Rattle.floats.specs.Scalar.{is_finite, float_abs}

pub impossible : {A : Type 0} → false ≡ true → A
impossible h = absurd (true≢false (sym h))

-- ---- between the infinities

pub finite_between : (x : Float) → is_finite x ≡ lt x (of_bits binary64 0x7ff0_0000_0000_0000) && lt (of_bits binary64 0xfff0_0000_0000_0000) x
unfolding lt of_bits is_finite
finite_between nan = refl
finite_between (inf true) = refl
finite_between (inf false) = refl
finite_between (fin s m e) = refl

-- ---- the absolute value

pub abs_is : (x : Float) → float_with_sign false x ≡ float_abs x
unfolding float_with_sign float_abs
abs_is nan = refl
abs_is (inf s) = refl
abs_is (fin s m e) = refl

-- ---- a NaN

pub nan_differs_alone : (x : Float) → ne x x ≡ is_nan x
unfolding ne is_nan
nan_differs_alone nan = refl
nan_differs_alone (inf true) = refl
nan_differs_alone (inf false) = refl
nan_differs_alone (fin true m e) = rw (same→eqb (m * up e * down e)) refl
nan_differs_alone (fin false m e) = rw (same→eqb (m * up e * down e)) refl

-- ---- the same bits

pub right_not_nan : (x y : Float) → eq x y ≡ true → T (not (is_nan y))
right_not_nan x y h = le_right x y (le_of_eq x y (T_from_true _ h))

pub by_bits : (x y : Float) → T (fits binary64 x) → T (fits binary64 y) → to_bits binary64 x ≡ to_bits binary64 y → x ≡ y
by_bits x y f g e = rw (← (of_bits-to_bits binary64 x f), e, of_bits-to_bits)

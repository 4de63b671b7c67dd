-- The order of floats by tests: std's laws of `<` and `<=` (`Float`), as equations. Where neither is a NaN, `le` is the opposite of `lt` the other way
-- round; so a value that lies between two bounds is finite, `le` goes on from one pair to the next, and what is below is not equal. Assumes nothing.
use mathlib.Core.Path.{◌≡◌, refl, sym}
use mathlib.Core.Bool.{Bool, true, false, not, ◌&&◌, ◌||◌, and-true, not-not}
use lib.Ieee.{Float, nan, inf, fin, binary64, of_bits, add, neg, lt, le, eq, is_nan}
use Rattle.std.proofs.lemmas.Float
use Rattle.floats.specs.Scalar.{nought, one, e_9, is_finite, is_positive, in_unit}
use Rattle.base.proofs.BoolLaws.{T_true, true_T, false_T, not_T_false, same_truth}
use Rattle.floats.proofs.scalar.Laws.{impossible}

-- ---- `le` against `lt`

pub le_not_lt : (x y : Float) → le x y ≡ true → lt y x ≡ false
le_not_lt x y h = not_T_false _ (λ u. Float.lt_irrefl y (Float.lt_of_lt_of_le y x y u (true_T _ h)))

pub lt_not_le : (x y : Float) → lt x y ≡ true → le y x ≡ false
lt_not_le x y h = not_T_false _ (λ u. Float.lt_irrefl x (Float.lt_of_lt_of_le x y x (true_T _ h) u))

pub lt_is_le : (x y : Float) → lt x y ≡ true → le x y ≡ true
lt_is_le x y h = T_true _ (Float.le_of_lt x y (true_T _ h))

order : (x y : Float) → is_nan x ≡ false → is_nan y ≡ false → le x y ≡ not (lt y x)
order x y n m =
    same_truth (le x y) (not (lt y x)) (λ t. false_T _ (le_not_lt x y (T_true _ t))) (Float.le_of_not-lt y x (false_T _ m) (false_T _ n))

-- ---- the tests of `is_positive` and `in_unit`

-- finite, not below a and not above b
between : (x a b : Float) → is_finite a ≡ true → is_finite b ≡ true → le a x && le x b ≡ is_finite x && (not (lt x a) && not (lt b x))
unfolding is_finite le is_nan
between x nan b h k = impossible h
between x (inf s) b h k = impossible h
between x (fin s m e) nan h k = impossible k
between x (fin s m e) (inf t) h k = impossible k
between nan (fin s m e) (fin t n d) h k = refl
between (inf true) (fin s m e) (fin t n d) h k = refl
between (inf false) (fin s m e) (fin t n d) h k = refl
between (fin u l g) (fin s m e) (fin t n d) h k = rw (order, order)

-- finite, and not at or below a
above : (x a : Float) → is_finite a ≡ true → lt a x && lt x (inf false) ≡ is_finite x && not (le x a)
unfolding is_finite le is_nan
above x nan h = impossible h
above x (inf s) h = impossible h
above nan (fin s m e) h = refl
above (inf true) (fin s m e) h = refl
above (inf false) (fin s m e) h = refl
above (fin u l g) (fin s m e) h = rw (order (fin u l g) (fin s m e) refl refl, and-true, not-not)

-- as the code tests both
pub positive_is : (x : Float) → is_positive x ≡ lt nought x && lt x (of_bits binary64 0x7ff0_0000_0000_0000)
unfolding is_positive of_bits
positive_is x = rw above

pub unit_is : (x : Float) → in_unit x ≡ le (neg e_9) x && le x (add binary64 one e_9)
unfolding in_unit of_bits
unit_is x = rw between

-- ---- from one pair to the next

pub le_le : (x y z : Float) → le x y ≡ true → le y z ≡ true → le x z ≡ true
le_le x y z h k = T_true _ (Float.le_trans x y z (true_T _ h) (true_T _ k))

pub lt_le : (x y z : Float) → lt x y ≡ true → le y z ≡ true → lt x z ≡ true
lt_le x y z h k = T_true _ (Float.lt_of_lt_of_le x y z (true_T _ h) (true_T _ k))

-- ---- equality

pub eq_sym : (x y : Float) → eq x y ≡ true → eq y x ≡ true
eq_sym x y h = T_true _ (Float.eq_flip x y (true_T _ h))

pub eq_trans : (x y z : Float) → eq x y ≡ true → eq y z ≡ true → eq x z ≡ true
eq_trans x y z h k = T_true _ (Float.eq_trans x y z (true_T _ h) (true_T _ k))

-- what is at most and not below is equal
pub eq_by_le : (x y : Float) → le x y ≡ true → lt x y ≡ false → eq x y ≡ true
unfolding le
eq_by_le x y h k = rw k at h

pub neither : (p q : Bool) → p || q ≡ false → (p ≡ false) × (q ≡ false)
neither false q h = (refl, h)
neither true q h = impossible (sym h)

-- what is above is not equal
pub lt_not_eq : (x y : Float) → lt x y ≡ true → eq y x ≡ false
lt_not_eq x y h = not_T_false _ (λ u. Float.eq-not_lt x y (Float.eq_flip y x u) (true_T _ h))

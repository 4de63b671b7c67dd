-- A level and an upright line cross where they begin: nothing is rounded on the way. What the tests of `is_plain` say. Assumes nothing.
use mathlib.Core.Path.{◌≡◌, refl, sym, ap, ◌∙◌, subst}
use mathlib.Core.Bool.{true, false, not}
use Prim.Native.Nat.{ℕ, ◌+◌, ◌≤◌}
use native.Mathlib.Omega.{arith}
use borrow.Author.Tests.{ltb-true}
use lib.Dec.{T, ltb}
use lib.IntN.{ℤ, pos}
use lib.Ieee.{Float, nan, inf, fin, binary64, add, sub, mul, div, lt, of_bits, to_bits, fits, is_nan}
use Rattle.base.specs.Answers.{good}
use Rattle.floats.specs.Scalar.{one, e_12, float_abs, clamp_unit, in_unit}
use Rattle.curves.specs.Point.{point}
use Rattle.curves.specs.Crossing.{denominator, crossing_u, crossing_v, inside_or_refused, logical_intersection}
use Rattle.curves.specs.inner.Level.{Plain}
use Rattle.floats.proofs.scalar.Laws.{impossible}
use Rattle.floats.proofs.scalar.Exact.{sub_self_zero, mul_by_zero, add_zero_own, div_one_own}
use Rattle.curves.proofs.crossing.Laws.{not_parallel, inside}

-- ---- the operations on a plain parameter

abbrev plus_zero : Float
plus_zero = fin false 0 (pos 0)

abbrev plus_one : Float
plus_one = fin false 1 (pos 0)

-- `held`, of the number as it is written
fits_as : (x : Float) (p : Plain x) → T (fits binary64 (fin false p.digits p.exponent))
fits_as x p = subst (λ (z : Float). T (fits binary64 z)) p.is p.held

less_itself : (x : Float) → Plain x → sub binary64 x x ≡ plus_zero
less_itself x p = subst (λ (z : Float). sub binary64 z z ≡ plus_zero) (sym p.is) (sub_self_zero binary64 p.digits p.exponent)

times_zero : (x : Float) → Plain x → mul binary64 x plus_zero ≡ plus_zero
times_zero x p = subst (λ (z : Float). mul binary64 z plus_zero ≡ plus_zero) (sym p.is) (mul_by_zero binary64 p.digits p.exponent)

more_zero : (x : Float) → Plain x → add binary64 x plus_zero ≡ x
more_zero x p = subst (λ (z : Float). add binary64 z plus_zero ≡ z) (sym p.is) (add_zero_own binary64 p.digits p.exponent (fits_as x p))

by_one : (x : Float) → Plain x → div binary64 x plus_one ≡ x
by_one x p = subst (λ (z : Float). div binary64 z plus_one ≡ z) (sym p.is) (div_one_own binary64 p.digits p.exponent (fits_as x p))

-- ---- the crossing

no_slope : sub binary64 one (mul binary64 plus_zero plus_zero) ≡ plus_one
unfolding sub mul of_bits
no_slope = refl

not_small : lt (float_abs plus_one) e_12 ≡ false
unfolding lt float_abs of_bits
not_small = refl

denominator_one : (a c : Float) → Plain a → Plain c → denominator a a c c ≡ plus_one
denominator_one a c p q =
    ap (λ (z : Float). sub binary64 one (mul binary64 z (sub binary64 c c))) (less_itself a p)
    ∙ ap (λ (z : Float). sub binary64 one (mul binary64 plus_zero z)) (less_itself c q)
    ∙ no_slope

v_begins : (a c : Float) → Plain a → Plain c → crossing_v a a c c ≡ a
v_begins a c p q =
    ap (λ (z : Float). div binary64 (add binary64 a (mul binary64 c (sub binary64 a a))) z) (denominator_one a c p q)
    ∙ ap (λ (z : Float). div binary64 (add binary64 a (mul binary64 c z)) plus_one) (less_itself a p)
    ∙ ap (λ (z : Float). div binary64 (add binary64 a z) plus_one) (times_zero c q)
    ∙ ap (λ (z : Float). div binary64 z plus_one) (more_zero a p)
    ∙ by_one a p

u_begins : (a c : Float) → Plain a → Plain c → crossing_u a a c c ≡ c
u_begins a c p q =
    ap (λ (z : Float). add binary64 c (mul binary64 z (sub binary64 c c))) (v_begins a c p q)
    ∙ ap (λ (z : Float). add binary64 c (mul binary64 a z)) (less_itself c q)
    ∙ ap (λ (z : Float). add binary64 c z) (times_zero a p)
    ∙ more_zero c q

pub level_crossing : (a c : Float) (i j : ℕ) → Plain a → Plain c → logical_intersection a a c c i j ≡ good (point c a)
level_crossing a c i j p q =
    sym (not_parallel a a c c i j (ap (λ (z : Float). lt (float_abs z) e_12) (denominator_one a c p q) ∙ not_small))
    ∙ ap (λ (z : Float). inside_or_refused z (crossing_v a a c c) i j) (u_begins a c p q)
    ∙ ap (λ (z : Float). inside_or_refused c z i j) (v_begins a c p q)
    ∙ sym (inside c a i j (sym q.clamped) (sym p.clamped) q.inside p.inside)

-- ---- the tests of `is_plain`

-- what lies in 0..1 is no NaN
pub known : (x : Float) → in_unit x ≡ true → T (not (is_nan x))
unfolding in_unit is_nan
known nan h = impossible h
known (inf s) h = tt
known (fin s m e) h = tt

-- a sign set is the highest bit
signed : (m : ℕ) (e : ℤ) → 0x8000_0000_0000_0000 ≤ to_bits binary64 (fin true m e)
unfolding to_bits
signed m e = at_least 0x8000_0000_0000_0000 _ _
  where
    at_least : (t x y : ℕ) → t ≤ t + x + y
    at_least t x y = omega arith

pub plain_by : (x : Float) → T (fits binary64 x) → in_unit x ≡ true → clamp_unit x ≡ x → ltb (to_bits binary64 x) 0x8000_0000_0000_0000 ≡ true → Plain x
unfolding in_unit
plain_by nan f h k b = impossible h
plain_by (inf s) f h k b = impossible h
plain_by (fin true m e) f h k b = let p = ltb-true (to_bits binary64 (fin true m e)) 0x8000_0000_0000_0000 b in let q = signed m e in absurd (omega arith)
plain_by (fin false m e) f h k b = record { digits = m; exponent = e; is = refl; held = f; inside = h; clamped = k }

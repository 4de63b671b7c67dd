-- Where the whole length of a curve is finite, the lengths run rise: a distance is not below zero, and a sum rounded is not below what it was added
-- to. Assumes nothing.
use mathlib.Core.Path.{◌≡◌, sym, ap, subst, ◌∙◌}
use mathlib.Core.Bool.{Bool, true, false, not, cond}
use mathlib.Core.List.{List}
use Prim.Native.Nat.{ℕ, zero, suc, ◌+◌, ◌-◌, ◌*◌, ◌<◌, ◌≤◌}
use native.Mathlib.Nat.{le_trans, le_of_eq, mul-pos, mul_assoc, mul_right_comm, mul-le-mul_right, zero-mul}
use native.Mathlib.Numerals.{add-one}
use native.Mathlib.Omega.{arith}
use borrow.Author.Tests.{le-ltb}
use lib.Dec.{T, ltb}
use lib.IntN.{ℤ}
use lib.Ieee.{Float, nan, inf, fin, Format, binary64, up, down, round, sum, add, sub, mul, le, fits, of_bits}
use lib.Ieee.Fits.{and_l, down_pos, round-fits}
use lib.Ieee.Order.{round_mono}
use lib.Ieee.Scale.{grid, finite, round_val, round_under}
use Rattle.base.specs.Refusal.{refused, is_passed, then_test, refuse_if}
use Rattle.base.proofs.BoolLaws.{T_true}
use Rattle.base.proofs.TestLaws.{then_right, not_refused}
use Rattle.floats.specs.Scalar.{nought, is_finite, is_positive}
use Rattle.floats.specs.Root.{among, rounded, root}
use Rattle.curves.specs.Curve.{point_count, point_at, distance, length_to, total_length, arc_curve, length_at, all_finite, total_test, curve_test}
use Rattle.curves.specs.inner.Segments.{Rising}
use Rattle.curves.specs.declared.point.Point.{Point}
use Rattle.floats.proofs.root.Amounts.{among_of}
use Rattle.floats.proofs.scalar.Exact.{round_own}
use Rattle.floats.proofs.scalar.Finite.{sum_first}
use Rattle.curves.proofs.curve.Finite.{before}
use Rattle.curves.proofs.curve.Laws.{knot_count_arc, length_in_arc}

-- ---- a distance is not below zero

-- a NaN, an infinity, a number without sign, or -0
abbrev not_below : Float → Bool
not_below nan = true
not_below (inf s) = true
not_below (fin false m e) = true
not_below (fin true zero e) = true
not_below (fin true (suc m) e) = false

to_finite : (x : Float) → T (is_finite x) → T (finite x)
unfolding is_finite
to_finite nan t = t
to_finite (inf s) t = t
to_finite (fin s m e) t = tt

-- a rounding without sign
round_among : (f : Format) (a c : ℕ) → T (finite (round f false a c)) → T (among f (round f false a c))
round_among f a c t = among_of f (round f false a c) (grid f a c) (round-fits f false a c) (round_val f a c (round_under f a c t))

round_not_below : (f : Format) (a c : ℕ) → T (not_below (round f false a c))
unfolding among
round_not_below f a c = go (round f false a c) (round_among f a c)
  where
    go : (x : Float) → (T (finite x) → T (among f x)) → T (not_below x)
    go nan h = tt
    go (inf s) h = tt
    go (fin false m e) h = tt
    go (fin true m e) h = absurd (h tt)

root_not_below : (f : Format) (x : Float) → T (not_below (root f x))
unfolding root rounded
root_not_below f nan = tt
root_not_below f (inf true) = tt
root_not_below f (inf false) = tt
root_not_below f (fin true zero e) = tt
root_not_below f (fin false zero e) = tt
root_not_below f (fin true (suc m) e) = tt
root_not_below f (fin false (suc m) e) = round_not_below f _ _

distance_not_below : (p q : Point) → T (not_below (distance p q))
unfolding distance
distance_not_below p q =
    let dx = sub binary64 q.x p.x in
    let dy = sub binary64 q.y p.y in
    root_not_below binary64 (add binary64 (mul binary64 dx dx) (mul binary64 dy dy))

-- ---- one step: the sum, where it is finite

-- a value is not above the rounding of a number that it is not above
own_le : (f : Format) (m : ℕ) (e : ℤ) (a c : ℕ) → T (fits f (fin false m e)) → 0 < c → m * up e * c ≤ a * down e → T (le (fin false m e) (round f false a c))
own_le f m e a c t C h = subst (λ (x : Float). T (le x (round f false a c))) (round_own f false m e t) (round_mono f (m * up e) (down e) a c (down_pos e) C h)

-- y is finite and has no sign, and x is not above it
abbrev Next : Format → Float → Float → Type 0
Next f x y = T (among f y) × T (le x y)

-- the sum of m * 2 ^ e and a number that is not below zero, b of the parts in which both are counted
next : (f : Format) (m : ℕ) (e k : ℤ) (b : ℕ) → T (fits f (fin false m e)) → T (is_finite (round f false (m * up e * down k + b) (down e * down k)))
    → Next f (fin false m e) (round f false (m * up e * down k + b) (down e * down k))
next f m e k b h t =
    let a = m * up e * down k in
    let c = down e * down k in
    let l : a ≤ a + b = omega arith in
    let p : m * up e * c ≡ a * down e = sym (mul_assoc (m * up e) (down e) (down k)) ∙ mul_right_comm (m * up e) (down e) (down k) in (
      round_among f (a + b) c (to_finite (round f false (a + b) c) t),
      own_le f m e (a + b) c h (mul-pos (down_pos e) (down_pos k)) (le_trans (le_of_eq p) (mul-le-mul_right (down e) l)),
    )

-- with -0 added
less_none : (f : Format) (a b c : ℕ) → b ≡ 0 → round f false (a + 0) c ≡ sum f false a true b c
unfolding sum
less_none f a b c e =
    let z : a + 0 ≡ a - 0 = omega arith in
    ap (λ (n : ℕ). round f false n c) z
    ∙ ap (λ (x : Bool). cond x (round f true (0 - a) c) (round f false (a - 0) c)) (sym (le-ltb a 0 (omega arith)))
    ∙ ap (λ (n : ℕ). sum f false a true n c) (sym e)

step : (f : Format) (x d : Float) → T (among f x) → T (not_below d) → T (is_finite (add f x d)) → Next f x (add f x d)
unfolding among add is_finite
step f nan d h n t = absurd h
step f (inf s) d h n t = absurd h
step f (fin true m e) d h n t = absurd h
step f (fin false m e) nan h n t = absurd t
step f (fin false m e) (inf s) h n t = absurd t
step f (fin false m e) (fin false o k) h n t = next f m e k (o * up k * down e) h t
step f (fin false m e) (fin true zero k) h n t =
    let e' = less_none f (m * up e * down k) (0 * up k * down e) (down e * down k) (ap (λ (j : ℕ). j * down e) (zero-mul (up k)) ∙ zero-mul (down e)) in
    subst (Next f (fin false m e)) e' (next f m e k 0 h (subst (λ (x : Float). T (is_finite x)) (sym e') t))
step f (fin false m e) (fin true (suc o) k) h n t = absurd n

-- ---- the lengths of one curve

none_among : T (among binary64 nought)
unfolding among of_bits fits
none_among = tt

run_next : (points : List Float) (k : ℕ) → T (among binary64 (length_to points k)) → T (is_finite (length_to points (suc k)))
    → Next binary64 (length_to points k) (length_to points (suc k))
unfolding length_to
run_next points k h t =
    let p = point_at points k in
    let q = point_at points (suc k) in
    step binary64 (length_to points k) (distance p q) h (distance_not_below p q) t

-- a finite length has no sign
run_among : (points : List Float) (k : ℕ) → T (is_finite (length_to points k)) → T (among binary64 (length_to points k))
unfolding length_to
run_among points zero t = none_among
run_among points (suc k) t = (run_next points k (run_among points k (sum_first binary64 (length_to points k) _ t)) t).0

run_rises : (points : List Float) (k : ℕ) → T (is_finite (length_to points (suc k))) → T (le (length_to points k) (length_to points (suc k)))
unfolding length_to
run_rises points k t = (run_next points k (run_among points k (sum_first binary64 (length_to points k) _ t)) t).1

-- a curve with a finite length: no length run is above the next
pub lengths_rise : (points : List Float) → T (is_finite (total_length points)) → Rising (arc_curve points)
lengths_rise points t i h =
    let n = point_count points in
    let l : i + 1 < n = subst (λ (m : ℕ). i + 1 < m) (knot_count_arc points) h in
    let e : n - 1 ≡ suc i + (n - 1 - suc i) = omega arith in
    let r = run_rises points i (before points (suc i) (n - 1 - suc i) (subst (λ (m : ℕ). T (is_finite (length_to points m))) e t)) in
    ap (λ (x : Float). le x (length_at (arc_curve points) (i + 1))) (length_in_arc points i (omega arith))
    ∙ ap (le (length_to points i)) (length_in_arc points (i + 1) l ∙ ap (length_to points) (add-one i))
    ∙ T_true (le (length_to points i) (length_to points (suc i))) r

-- ---- a curve that has passed its tests

total_finite : (total : Float) (side : ℕ) → T (is_passed (total_test total side)) → T (is_finite total)
unfolding total_test is_positive
total_finite total side t = and_l (is_finite total) (not (le total nought)) (not_not (is_positive total) (not_refused (not (is_positive total)) 14 side 0 t))
  where
    not_not : (b : Bool) → T (not (not b)) → T b
    not_not true u = tt
    not_not false u = u

-- they rise on a curve that has passed
pub rise_passed : (points : List Float) (side : ℕ) → T (is_passed (curve_test points side)) → Rising (arc_curve points)
unfolding curve_test
rise_passed points side t =
    let total = total_test (total_length points) side in
    let rest = then_test (refuse_if (not (all_finite points)) (refused 14 side 0)) total in
    let u : T (is_passed rest) = then_right (refuse_if (ltb (point_count points) 2) (refused 13 side 0)) rest t in
    let v : T (is_passed total) = then_right (refuse_if (not (all_finite points)) (refused 14 side 0)) total u in
    lengths_rise points (total_finite (total_length points) side v)

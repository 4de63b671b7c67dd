-- A range whose ends are equal is an ideal: its edge cost has the same bits, for every count and every accepted ideal. Nothing rounds: where a
-- number is
-- neither below the ideal nor above it, their quotient is 1. Assumes nothing.
use mathlib.Core.Path.{◌≡◌, refl, sym, ap, fun_ext, ◌∙◌}
use mathlib.Core.List.{List}
use mathlib.Core.Bool.{Bool, true, false, not, ◌&&◌, cond, beq}
use Prim.Native.Nat.{ℕ, zero, suc, ◌+◌, ◌-◌, ◌*◌, ◌^◌, ◌<◌}
use native.Mathlib.Nat.{mul-pos, mul-one, one-mul, le_antisymm}
use native.Mathlib.Omega.{arith}
use lib.Dec.{T, ltb, eqb, ltb→lt, eqb→eq, nltb→le, not_T}
use lib.ListN.{get_or}
use lib.Ieee.Bits.{cond_no}
use lib.IntN.{ℤ, pos}
use lib.Ieee.{Float, nan, inf, fin, up, down, low, emax, prec, binary64, round, units, odd, sum, add, sub, div, lt, is_nan, neg, of_int, of_bits}
use lib.Ieee.Fits.{up_pos, down_pos, round_is}
use lib.Ieee.Scale.{round_same}
use Rattle.counts.specs.Values.{ideal_ok}
use Rattle.floats.specs.Scalar.{one}
use Rattle.counts.specs.Cost.{real, step, deviation, square, edge_delta, range_deviation, range_delta, by_ideals, by_ranges}

-- ---- a quotient of equal numbers is 1

round_one : (a b : ℕ) → 0 < b → a ≡ b → round binary64 false a b ≡ one
unfolding round of_bits
round_one a b p e = round_same binary64 false a b 1 1 p (omega arith) (mul-one a ∙ e ∙ sym (one-mul b))

quotient : (n a b : ℕ) (y : Float) → 0 < n → 0 < b → a ≡ b → cond (eqb n 0) y (round binary64 false a b) ≡ one
quotient n a b y h p e = cond_no (eqb n 0) y (round binary64 false a b) (not_T (eqb n 0) (λ t. let z = eqb→eq n 0 t in omega (arith, z, h)))
    ∙ round_one a b p e

no_deviation : (x : Float) → x ≡ one → sub binary64 x one ≡ of_bits binary64 0
unfolding sub of_bits
no_deviation x e = ap (λ (y : Float). sub binary64 y one) e

-- neither below an ideal nor above it
pub level_deviation : (s x : Float) → T (ideal_ok x) → T (not (is_nan s)) → T (not (lt s x)) → T (not (lt x s)) → deviation s x ≡ of_bits binary64 0
unfolding deviation lt is_nan div
level_deviation s nan ok r h k = absurd ok
level_deviation s (inf t) ok r h k = absurd ok
level_deviation s (fin true n d) ok r h k = absurd ok
level_deviation nan (fin false n d) ok r h k = absurd r
level_deviation (inf true) (fin false n d) ok r h k = absurd h
level_deviation (inf false) (fin false n d) ok r h k = absurd k
level_deviation (fin true m e) (fin false n d) ok r h k =
    let p : 0 < n * up d * down e = mul-pos (mul-pos (ltb→lt 0 n ok) (up_pos d)) (down_pos e) in
    let z = nltb→le 0 (m * up e * down d + n * up d * down e) h in absurd (omega arith)
level_deviation (fin false m e) (fin false n d) ok r h k =
    let a = m * up e * down d in
    let b = n * up d * down e in
    let p : 0 < b = mul-pos (mul-pos (ltb→lt 0 n ok) (up_pos d)) (down_pos e) in
    no_deviation (div binary64 (fin false m e) (fin false n d))
    (quotient n a b _ (ltb→lt 0 n ok) p (le_antisymm (nltb→le b a k) (nltb→le a b h)))

pub range_is : (s x : Float) → T (ideal_ok x) → T (not (is_nan s)) → range_deviation s x x ≡ deviation s x
unfolding range_deviation
range_is s x ok r = go (lt s x) (lt x s) (level_deviation s x ok r)
  where
    go : (p q : Bool) → (T (not p) → T (not q) → deviation s x ≡ of_bits binary64 0)
        → cond p (deviation s x) (cond q (deviation s x) (of_bits binary64 0)) ≡ deviation s x
    go true q f = refl
    go false true f = refl
    go false false f = sym (f tt tt)

-- ---- no count is NaN, nor one more or less

odd_real : (d : ℕ) (s : Bool) (q k l : ℕ) → T (not (is_nan (odd d s q k l)))
unfolding odd is_nan
odd_real d s zero k l = tt
odd_real d s (suc q) k l = tt

pick_real : (b : Bool) (x y : Float) → T (not (is_nan x)) → T (not (is_nan y)) → T (not (is_nan (cond b x y)))
pick_real true x y p q = p
pick_real false x y p q = q

units_real : (s : Bool) (q k : ℕ) → T (not (is_nan (units binary64 s q k)))
unfolding units
units_real s q k = pick_real (ltb (q * 2 ^ k) (2 ^ (low binary64 + suc (emax binary64)))) _ _ (odd_real (suc (prec binary64)) s q k (low binary64))
    (unfold is_nan in tt)

round_real : (s : Bool) (a b : ℕ) → T (not (is_nan (round binary64 s a b)))
round_real s a b = rw (round_is binary64 s a b) (units_real s _ _)

sum_real : (s : Bool) (a : ℕ) (t : Bool) (b c : ℕ) → T (not (is_nan (sum binary64 s a t b c)))
unfolding sum
sum_real s a t b c =
    pick_real (beq s t) _ _ (round_real s (a + b) c) (pick_real (ltb a b) _ _ (round_real t (b - a) c) (round_real (s && ltb b a) (a - b) c))

add_real : (x : Float) (t : Bool) (n : ℕ) (d : ℤ) → T (not (is_nan x)) → T (not (is_nan (add binary64 x (fin t n d))))
unfolding add is_nan
add_real nan t n d h = h
add_real (inf s) t n d h = tt
add_real (fin s m e) t n d h = sum_real s (m * up e * down d) t (n * up d * down e) (down e * down d)

real_count : (s : ℕ) → T (not (is_nan (real s)))
unfolding of_int
real_count s = round_real false s 1

real_next : (s : ℕ) (d : Bool) → T (not (is_nan (add binary64 (real s) (step d))))
unfolding neg of_bits
real_next s true = add_real (real s) false 1 (pos 0) (real_count s)
real_next s false = add_real (real s) true 1 (pos 0) (real_count s)

-- ---- the law

pub range_delta_is : (s : ℕ) (x : Float) (d : Bool) → T (ideal_ok x) → range_delta s x x d ≡ edge_delta s x d
unfolding range_delta edge_delta
range_delta_is s x d ok =
    ap (λ (v : Float). sub binary64 (square v) (square (range_deviation (real s) x x)))
    (range_is (add binary64 (real s) (step d)) x ok (real_next s d))
    ∙ ap (λ (v : Float). sub binary64 (square (deviation (add binary64 (real s) (step d)) x)) (square v)) (range_is (real s) x ok (real_count s))

-- lists of ideals as both ends
pub models_same : (ideals : List Float) → ((x : ℕ) → T (ideal_ok (get_or ideals x one))) → by_ranges ideals ideals ≡ by_ideals ideals
models_same ideals ok = fun_ext (λ counts. fun_ext (λ x. fun_ext (λ d. range_delta_is (get_or counts x 0) (get_or ideals x one) d (ok x))))

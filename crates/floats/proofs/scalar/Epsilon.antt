-- The four facts about f64 that the search rests on, E being 1e-12: what is below something is no NaN (real_of_lt); what is below (b - E) is
-- below -E where b is (below_again); what is below -2E is below (b - E) where b is not below -E (far_below), and below -E (two_eps_below).
-- Assumes nothing.
use mathlib.Core.Path.{◌≡◌, refl}
use mathlib.Core.Bool.{Bool, true, false, not, cond}
use Prim.Native.Nat.{ℕ, zero, suc, ◌+◌, ◌-◌, ◌*◌, ◌^◌, ◌≤◌, ◌<◌}
use native.Mathlib.Nat.{mul-le-mul_right, mul-pos}
use native.Mathlib.Omega.{arith}
use lib.Dec.{T, ltb, lt→ltb, nltb→le}
use lib.IntN.{ℤ}
use lib.Pow.{pow_pos}
use lib.Ieee.{Float, fin, inf, nan, add, sub, lt, le, eq, neg, sum, binary64, is_nan, round, units, odd, up, down, low, prec, emax, of_bits}
use lib.Ieee.Fits.{down_pos, round_is}
use lib.Ieee.Order.{round_mono}
use Rattle.std.proofs.lemmas.Float
use Rattle.floats.specs.Scalar.{e_12, two_e_12}
use Rattle.base.proofs.BoolLaws.{by_truth, or_left, eqb_comm}

pub real_of_lt : (c d : Float) → T (lt c d) → T (not (is_nan c))
real_of_lt c d t = Float.le_left c d (Float.le_of_lt c d t)

-- ---- not negative, by its sign
abbrev plain : Float → Bool
plain nan = false
plain (inf s) = not s
plain (fin s m e) = not s

odd_plain : (d q k l : ℕ) → T (plain (odd d false q k l))
unfolding odd
odd_plain d zero k l = tt
odd_plain d (suc q) k l = tt

odd_neg : (d q k l : ℕ) → odd d true q k l ≡ neg (odd d false q k l)
unfolding odd neg
odd_neg d zero k l = refl
odd_neg d (suc q) k l = refl

pick_plain : (b : Bool) (x y : Float) → T (plain x) → T (plain y) → T (plain (cond b x y))
pick_plain true x y p q = p
pick_plain false x y p q = q

pick_neg : (b : Bool) (x y x' y' : Float) → x' ≡ neg x → y' ≡ neg y → cond b x' y' ≡ neg (cond b x y)
pick_neg true x y x' y' p q = p
pick_neg false x y x' y' p q = q

units_plain : (q k : ℕ) → T (plain (units binary64 false q k))
unfolding units
units_plain q k = pick_plain (ltb (q * 2 ^ k) (2 ^ (low binary64 + suc (emax binary64)))) _ _ (odd_plain (suc (prec binary64)) q k (low binary64)) tt

units_neg : (q k : ℕ) → units binary64 true q k ≡ neg (units binary64 false q k)
unfolding units
units_neg q k =
    pick_neg (ltb (q * 2 ^ k) (2 ^ (low binary64 + suc (emax binary64)))) _ (inf false) _ (inf true) (odd_neg (suc (prec binary64)) q k (low binary64))
    (unfold neg in refl)

round_plain : (a b : ℕ) → T (plain (round binary64 false a b))
round_plain a b = rw round_is (units_plain _ _)

round_neg : (a b : ℕ) → round binary64 true a b ≡ neg (round binary64 false a b)
round_neg a b = rw (round_is, round_is) (units_neg _ _)

-- ---- the order turned round
neg_le : (x y : Float) → T (plain x) → T (plain y) → T (le x y) → T (le (neg y) (neg x))
unfolding le lt eq neg
neg_le nan y p q h = absurd p
neg_le (inf true) y p q h = absurd p
neg_le (inf false) nan p q h = absurd q
neg_le (inf false) (inf true) p q h = absurd q
neg_le (inf false) (inf false) p q h = tt
neg_le (inf false) (fin t n d) p q h = absurd h
neg_le (fin true m e) y p q h = absurd p
neg_le (fin false m e) nan p q h = absurd q
neg_le (fin false m e) (inf true) p q h = absurd q
neg_le (fin false m e) (inf false) p q h = tt
neg_le (fin false m e) (fin true n d) p q h = absurd q
neg_le (fin false m e) (fin false n d) p q h = rw (eqb_comm (n * up d * down e) (m * up e * down d)) h

turn : (x y c : Float) → T (plain x) → T (plain y) → T (le x y) → T (lt c (neg y)) → T (lt c (neg x))
turn x y c p q h k = Float.lt_of_lt_of_le c (neg y) (neg x) k (neg_le x y p q h)

eps_round : e_12 ≡ round binary64 false 0x119799812DEA11 (2 ^ 92)
unfolding round of_bits
eps_round = refl

two_eps_round : two_e_12 ≡ round binary64 false 0x119799812DEA11 (2 ^ 91)
unfolding round of_bits
two_eps_round = refl

-- ---- the sums
both_negative : (m : ℕ) (e : ℤ) → sub binary64 (fin true m e) e_12 ≡ neg (round binary64 false (m * up e * 2 ^ 92 + 0x119799812DEA11 * down e) (down e * 2 ^ 92))
unfolding sub add sum neg of_bits
both_negative m e = round_neg (m * up e * 2 ^ 92 + 0x119799812DEA11 * down e) (down e * 2 ^ 92)

pub two_eps_below : (c : Float) → T (lt c (neg two_e_12)) → T (lt c (neg e_12))
unfolding of_bits
two_eps_below c k = turn e_12 two_e_12 c tt tt (unfold le lt eq in tt) k

grow : (n A D P : ℕ) → n * (D * P) ≤ (A + n * D) * P
grow n A D P = omega arith

twice : (n A D P Q : ℕ) → Q ≡ 2 * P → A ≤ n * D → (A + n * D) * P ≤ n * (D * Q)
twice n A D P Q e h = rw e (omega (arith, mul-le-mul_right P h))

less : (n A D P Q : ℕ) → Q ≡ 2 * P → (n * D - A) * P ≤ n * (D * Q)
less n A D P Q e =
    let h : n * D - A ≤ n * D = omega arith in
    rw e (omega (arith, mul-le-mul_right P h))

den_pos : (e : ℤ) → 0 < down e * 2 ^ 92
den_pos e = mul-pos (down_pos e) (pow_pos 92)

nothing_below : (c : Float) → T (lt c (inf true)) → ⊥
unfolding lt
nothing_below nan t = t
nothing_below (inf true) t = t
nothing_below (inf false) t = t
nothing_below (fin s m e) t = t

eps_least : (m : ℕ) (e : ℤ) → T (le e_12 (round binary64 false (m * up e * 2 ^ 92 + 0x119799812DEA11 * down e) (down e * 2 ^ 92)))
eps_least m e =
    rw eps_round
    (round_mono binary64 0x119799812DEA11 (2 ^ 92) (m * up e * 2 ^ 92 + 0x119799812DEA11 * down e) (down e * 2 ^ 92) (pow_pos 92) (den_pos e)
    (grow 0x119799812DEA11 (m * up e * 2 ^ 92) (down e) (2 ^ 92)))

two_eps_most : (a : ℕ) (e : ℤ) → a * 2 ^ 91 ≤ 0x119799812DEA11 * (down e * 2 ^ 92) → T (le (round binary64 false a (down e * 2 ^ 92)) two_e_12)
two_eps_most a e h = rw two_eps_round (round_mono binary64 a (down e * 2 ^ 92) 0x119799812DEA11 (2 ^ 91) (den_pos e) (pow_pos 91) h)

pub below_again : (b c : Float) → T (lt b (neg e_12)) → T (lt c (sub binary64 b e_12)) → T (lt c (neg e_12))
unfolding lt neg of_bits
below_again nan c h k = absurd h
below_again (inf true) c h k = absurd (nothing_below c (unfold sub add in k))
below_again (inf false) c h k = absurd h
below_again (fin false m e) c h k = absurd h
below_again (fin true m e) c h k =
    turn e_12 (round binary64 false (m * up e * 2 ^ 92 + 0x119799812DEA11 * down e) (down e * 2 ^ 92)) c tt
    (round_plain (m * up e * 2 ^ 92 + 0x119799812DEA11 * down e) (down e * 2 ^ 92))
    (eps_least m e) (rw both_negative at k)

under_two_e_12 : (c : Float) (a : ℕ) (e : ℤ) → a * 2 ^ 91 ≤ 0x119799812DEA11 * (down e * 2 ^ 92) → T (lt c (neg two_e_12))
    → T (lt c (neg (round binary64 false a (down e * 2 ^ 92))))
unfolding of_bits
under_two_e_12 c a e h k = turn (round binary64 false a (down e * 2 ^ 92)) two_e_12 c (round_plain a (down e * 2 ^ 92)) tt (two_eps_most a e h) k

plain_above : (y : Float) → T (plain y) → T (le (neg two_e_12) y)
unfolding le lt neg of_bits
plain_above nan p = absurd p
plain_above (inf true) p = absurd p
plain_above (inf false) p = tt
plain_above (fin true n d) p = absurd p
plain_above (fin false n d) p =
    or_left _ _ (lt→ltb 0 (0x119799812DEA11 * down d + n * up d * 2 ^ 91) (omega (arith, mul-pos {m = 0x119799812DEA11} (omega arith) (down_pos d))))

under_plain : (c y : Float) → T (plain y) → T (lt c (neg two_e_12)) → T (lt c y)
under_plain c y p k = Float.lt_of_lt_of_le c (neg two_e_12) y k (plain_above y p)

pub far_below : (b c : Float) → T (not (is_nan b)) → T (not (lt b (neg e_12))) → T (lt c (neg two_e_12)) → T (lt c (sub binary64 b e_12))
unfolding lt neg is_nan of_bits
far_below nan c r h k = absurd r
far_below (inf true) c r h k = absurd h
far_below (inf false) c r h k = unfold sub add in (under_plain c (inf false) tt k)
far_below (fin true m e) c r h k =
    rw both_negative (under_two_e_12 c (m * up e * 2 ^ 92 + 0x119799812DEA11 * down e) e
    (twice 0x119799812DEA11 (m * up e * 2 ^ 92) (down e) (2 ^ 91) (2 ^ 92) refl (nltb→le (0x119799812DEA11 * down e) (m * up e * 2 ^ 92) h)) k)
far_below (fin false m e) c r h k =
    unfold sub add sum in (by_truth (ltb (m * up e * 2 ^ 92) (0x119799812DEA11 * down e))
    (λ t. rw (t, round_neg)
    (under_two_e_12 c (0x119799812DEA11 * down e - m * up e * 2 ^ 92) e (less 0x119799812DEA11 (m * up e * 2 ^ 92) (down e) (2 ^ 91) (2 ^ 92) refl) k))
    (λ t. rw t
    (under_plain c (round binary64 false (m * up e * 2 ^ 92 - 0x119799812DEA11 * down e) (down e * 2 ^ 92))
    (round_plain (m * up e * 2 ^ 92 - 0x119799812DEA11 * down e) (down e * 2 ^ 92)) k)))

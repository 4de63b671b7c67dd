-- The rounded patch at a corner, one coordinate of it. The blends there are at t = 0 or at t = 1, so that each picks one of its two values, and what is
-- left of the formula is (a + b) - a: a is the end of bottom or top in that corner, b that of left or right. Where these two are one value whose double
-- does not overflow, it comes back: to the bit if it is not -0, and by the comparison of IEEE 754, for which -0 equals +0, if it is any finite value.
-- Assumes nothing.
use mathlib.Core.Path.{◌≡◌, refl, sym, ap, subst, ◌∙◌}
use mathlib.Core.Bool.{Bool, true, false, not, ◌&&◌, ◌||◌, cond, beq}
use Prim.Native.Nat.{ℕ, zero, suc, ◌+◌, ◌-◌, ◌*◌, ◌%◌, ◌^◌, ◌<◌, ◌≤◌}
use native.Mathlib.Nat.{le_trans, mul-pos, zero-mul, pow-suc}
use native.Mathlib.Omega.{arith}
use borrow.Author.Tests.{le-ltb, lt-ltb, ltb-true}
use lib.Dec.{T, ltb, eqb, leb, lt→ltb, leb→le, le→leb, eqb→eq, eqb-suc-zero}
use lib.IntN.{ℤ, pos, negsuc}
use lib.Ieee.{Float, nan, inf, fin, Format, binary64, prec, emax, low, up, down, round, add, sub, mul, lt, eq, fits, of_bits}
use lib.Ieee.Fits.{and_i, and_l, and_r, up_pos, down_pos, add-fits}
use Rattle.base.proofs.BoolLaws.{true_T, same→eqb}
use Rattle.floats.specs.Scalar.{nought, one, two_1023, is_finite, float_abs, Moderate}
use Rattle.floats.proofs.scalar.Blends.{ordinary, nought_is, rest_one, zero_times, at_nought, at_one}
use Rattle.floats.proofs.scalar.Exact.{by_value, zero_fits, round_to}
use Rattle.floats.proofs.scalar.Laws.{impossible}
use Rattle.floats.proofs.scalar.Order.{eq_trans}

-- ---- twice a number: m * 2 ^ e has the double m * 2 ^ (e + 1), which fits where the number is below the half of what overflows

abbrev next : ℤ → ℤ
next (pos k) = pos (suc k)
next (negsuc zero) = pos 0
next (negsuc (suc k)) = negsuc k

doubled : (e : ℤ) → up (next e) * down e ≡ 2 * (up e * down (next e))
doubled (pos k) = omega (arith, pow-suc 2 k)
doubled (negsuc zero) = refl
doubled (negsuc (suc k)) = omega (arith, pow-suc 2 (suc k))

down_next : (e : ℤ) → down (next e) ≤ down e
down_next (pos k) = omega arith
down_next (negsuc zero) = omega arith
down_next (negsuc (suc k)) = omega (arith, pow-suc 2 (suc k))

next_below : (m : ℕ) (e : ℤ) (x : ℕ) → m * up e < 2 ^ x * down e → m * up (next e) < 2 ^ suc x * down (next e)
next_below m (pos k) x h = rw (pow-suc 2 k, pow-suc 2 x) (omega arith)
next_below m (negsuc zero) x h = rw (pow-suc 2 x) (omega arith)
next_below m (negsuc (suc k)) x h = rw (pow-suc 2 x) (omega (arith, ap (λ (z : ℕ). 2 ^ x * z) (pow-suc 2 (suc k))))

twice_fits : (f : Format) (s : Bool) (m : ℕ) (e : ℤ) → T (fits f (fin s (suc m) e)) → suc m * up e < 2 ^ emax f * down e
    → T (fits f (fin s (suc m) (next e)))
unfolding fits
twice_fits f s m e t h =
    let ab = eqb (suc m % 2) 1 && ltb (suc m) (2 ^ prec f) in
    let c = leb (down e) (2 ^ low f) in
    let c' = leb (down (next e)) (2 ^ low f) in
    let d' = ltb (suc m * up (next e)) (2 ^ suc (emax f) * down (next e)) in
    let abc = and_l (ab && c) (ltb (suc m * up e) (2 ^ suc (emax f) * down e)) t in
    let low_enough : T c' = le→leb (down (next e)) (2 ^ low f) (le_trans (down_next e) (leb→le (down e) (2 ^ low f) (and_r ab c abc))) in
    let under : T d' = lt→ltb (suc m * up (next e)) (2 ^ suc (emax f) * down (next e)) (next_below (suc m) e (emax f) h) in
    and_i (ab && c') d' (and_i ab c' (and_l ab c abc) low_enough) under

-- v / w is twice u / c
sum_doubled : (m u c v w : ℕ) → v * c ≡ 2 * (u * w) → (m * u * c + m * u * c) * w ≡ m * v * (c * c)
sum_doubled m u c v w h = omega (arith, ap (λ (z : ℕ). m * c * z) h)

two_parts : (m u c v w : ℕ) → v * c ≡ 2 * (u * w) → m * v * c ≡ m * u * w + m * u * w
two_parts m u c v w h = omega (arith, ap (λ (z : ℕ). m * z) h)

one_part : (a m u c w : ℕ) → a ≡ m * u * w + m * u * w → (a - m * u * w) * c ≡ m * u * (w * c)
one_part a m u c w h = let d : a - m * u * w ≡ m * u * w = omega arith in rw d (omega arith)

module _ (f : Format) (m : ℕ) (e : ℤ) where
  sum_to : (s : Bool) → T (fits f (fin s m (next e)))
      → round f s (m * up e * down e + m * up e * down e) (down e * down e) ≡ fin s m (next e)
  sum_to s t =
      let a = m * up e * down e in
      let h = sum_doubled m (up e) (down e) (up (next e)) (down (next e)) (doubled e) in
      round_to f s (a + a) (down e * down e) m (next e) t (mul-pos (down_pos e) (down_pos e)) h

  add_own : (s : Bool) → T (fits f (fin s m (next e))) → add f (fin s m e) (fin s m e) ≡ fin s m (next e)
  unfolding add
  add_own false t = sum_to false t
  add_own true t = sum_to true t

  parts : m * up (next e) * down e ≡ m * up e * down (next e) + m * up e * down (next e)
  parts = two_parts m (up e) (down e) (up (next e)) (down (next e)) (doubled e)

  difference_to : (s : Bool) → T (fits f (fin s m e))
      → round f s (m * up (next e) * down e - m * up e * down (next e)) (down (next e) * down e) ≡ fin s m e
  difference_to s t =
      let a = m * up (next e) * down e in
      let b = m * up e * down (next e) in
      let h = one_part a m (up e) (down e) (down (next e)) parts in
      round_to f s (a - b) (down (next e) * down e) m e t (mul-pos (down_pos (next e)) (down_pos e)) h

  -- a difference of zero is +0: a minus is kept only where the number is above zero in size
  sub_own : (s : Bool) → T (fits f (fin s m e)) → (T s → 0 < m) → sub f (fin s m (next e)) (fin s m e) ≡ fin s m e
  unfolding sub
  sub_own false t n =
      let a = m * up (next e) * down e in
      let b = m * up e * down (next e) in
      rw (le-ltb a b (omega (arith, parts))) (difference_to false t)
  sub_own true t n =
      let a = m * up (next e) * down e in
      let b = m * up e * down (next e) in
      let p : 0 < b = mul-pos (mul-pos (n tt) (up_pos e)) (down_pos (next e)) in
      rw (le-ltb a b (omega (arith, parts)), lt-ltb b a (omega (arith, parts))) (difference_to true t)

two_1023_is : two_1023 ≡ fin false 1 (pos 1023)
unfolding of_bits
two_1023_is = refl

ones_off : (a x d : ℕ) → a * 1 < 1 * x * d → a < x * d
ones_off a x d h = omega arith

below_half : (s : Bool) (m : ℕ) (e : ℤ) → lt (float_abs (fin s m e)) (fin false 1 (pos 1023)) ≡ true → m * up e < 2 ^ emax binary64 * down e
unfolding lt float_abs
below_half s m e h = ones_off (m * up e) (2 ^ 1023) (down e) (ltb-true (m * up e * 1) (1 * 2 ^ 1023 * down e) h)

-- ---- zeros

-- a zero that fits is written with the exponent 0
zero_is : (f : Format) (s : Bool) (e : ℤ) → T (fits f (fin s 0 e)) → fin s 0 e ≡ fin s 0 (pos 0)
zero_is f s e t = by_value f (fin s 0 e) s 0 (pos 0) t (zero_fits f s) (refl, simp zero-mul)

twice_zero : sub binary64 (add binary64 (fin false 0 (pos 0)) (fin false 0 (pos 0))) (fin false 0 (pos 0)) ≡ fin false 0 (pos 0)
unfolding sub
twice_zero = refl

-- ---- x + x - x

pub twice_less : (x : Float) → T (fits binary64 x) → T (ordinary x) → lt (float_abs x) two_1023 ≡ true → sub binary64 (add binary64 x x) x ≡ x
twice_less nan t o h = absurd o
twice_less (inf s) t o h = absurd o
twice_less (fin true zero e) t o h = absurd o
twice_less (fin false zero e) t o h = rw (zero_is binary64 false e t) twice_zero
twice_less (fin s (suc m) e) t o h =
    let g : suc m * up e < 2 ^ emax binary64 * down e = below_half s (suc m) e (rw two_1023_is at h) in
    rw (add_own binary64 (suc m) e s (twice_fits binary64 s m e t g)) (sub_own binary64 (suc m) e s t (λ z. omega arith))

-- ---- blends at an end

-- 0 or 1
abbrev pub end : Bool → Float
end false = nought
end true = one

-- the first value or the second
abbrev pub pick {ℓ} : {A : Type ℓ} → Bool → A → A → A
pick k a b = cond k b a

abbrev pub blend : Float → Float → Float → Float
blend t a b = add binary64 (mul binary64 (sub binary64 one t) a) (mul binary64 t b)

-- what a blend is made of
pub record Value (x : Float) : Type 0 where
  pub held : T (fits binary64 x)
  pub finite : T (is_finite x)

picked_value : (k : Bool) {a b : Float} → Value a → Value b → Value (pick k a b)
picked_value false p q = p
picked_value true p q = q

picked_own : (k : Bool) {a b : Float} → Value a → Value b → T (ordinary (pick k a b)) → blend (end k) a b ≡ pick k a b
picked_own false {a} {b} p q o = at_nought a b p.held o q.finite
picked_own true {a} {b} p q o = at_one a b q.held p.finite o

suc_ordinary : (s : Bool) (m : ℕ) (e : ℤ) → T (ordinary (fin s (suc m) e))
suc_ordinary true m e = rw (eqb-suc-zero m) tt
suc_ordinary false m e = tt

-- ---- blends of any finite values

-- `eq` of equals
level_of : (x : Float) (s : Bool) (m : ℕ) (e : ℤ) → x ≡ fin s m e → eq x (fin s m e) ≡ true
unfolding eq
level_of x false m e h = rw (h, same→eqb (m * up e * down e))
level_of x true m e h = rw (h, same→eqb (m * up e * down e))

abbrev minus_zero : Float
minus_zero = fin true 0 (pos 0)

-- -0 with a zero of either sign added
minus_nought : (t : Bool) → eq (add binary64 (mul binary64 (sub binary64 one nought) minus_zero) (fin t 0 (pos 0))) minus_zero ≡ true
unfolding eq add mul sub of_bits
minus_nought true = refl
minus_nought false = refl

minus_one : (t : Bool) → eq (add binary64 (fin t 0 (pos 0)) (mul binary64 one minus_zero)) minus_zero ≡ true
unfolding eq add mul sub of_bits
minus_one true = refl
minus_one false = refl

nought_times : (t : Bool) (n : ℕ) (d : ℤ) → mul binary64 nought (fin t n d) ≡ fin t 0 (pos 0)
nought_times t n d = rw nought_is (zero_times binary64 t n d)

zero_nought : (b : Float) → T (is_finite b) → eq (blend nought minus_zero b) minus_zero ≡ true
unfolding is_finite
zero_nought nan q = absurd q
zero_nought (inf t) q = absurd q
zero_nought (fin t n d) q = rw (nought_times t n d) (minus_nought t)

zero_one : (a : Float) → T (is_finite a) → eq (blend one a minus_zero) minus_zero ≡ true
unfolding is_finite
zero_one nan p = absurd p
zero_one (inf s) p = absurd p
zero_one (fin s m e) p = rw (rest_one, nought_times s m e) (minus_one s)

level_nought : (a b : Float) → T (fits binary64 a) → T (is_finite a) → T (is_finite b) → eq (blend nought a b) a ≡ true
unfolding is_finite
level_nought nan b g p q = absurd p
level_nought (inf s) b g p q = absurd p
level_nought (fin true zero e) b g p q = rw (zero_is binary64 true e g) (zero_nought b q)
level_nought (fin true (suc m) e) b g p q = level_of _ true (suc m) e (at_nought (fin true (suc m) e) b g (suc_ordinary true m e) q)
level_nought (fin false m e) b g p q = level_of _ false m e (at_nought (fin false m e) b g tt q)

level_one : (a b : Float) → T (fits binary64 b) → T (is_finite a) → T (is_finite b) → eq (blend one a b) b ≡ true
unfolding is_finite
level_one a nan g p q = absurd q
level_one a (inf t) g p q = absurd q
level_one a (fin true zero d) g p q = rw (zero_is binary64 true d g) (zero_one a p)
level_one a (fin true (suc n) d) g p q = level_of _ true (suc n) d (at_one a (fin true (suc n) d) g p (suc_ordinary true n d))
level_one a (fin false n d) g p q = level_of _ false n d (at_one a (fin false n d) g p tt)

pub picked_level : (k : Bool) {a b : Float} → Value a → Value b → eq (blend (end k) a b) (pick k a b) ≡ true
picked_level false {a} {b} p q = level_nought a b p.held p.finite q.finite
picked_level true {a} {b} p q = level_one a b q.held p.finite q.finite

-- what compares equal to a finite value is finite
level_finite : (x y : Float) → eq x y ≡ true → T (is_finite y) → T (is_finite x)
unfolding eq is_finite
level_finite nan y h f = impossible h
level_finite (inf s) nan h f = impossible h
level_finite (inf s) (inf t) h f = f
level_finite (inf s) (fin t n d) h f = impossible h
level_finite (fin s m e) y h f = tt

blend_value : (k : Bool) {a b : Float} → Value a → Value b → Value (blend (end k) a b)
blend_value k {a} {b} p q = record {
  held = add-fits binary64 (mul binary64 (sub binary64 one (end k)) a) (mul binary64 (end k) b);
  finite = level_finite (blend (end k) a b) (pick k a b) (picked_level k p q) (picked_value k p q).finite;
}

-- ---- the blend of two blends, as in the bilinear patch

bilinear_own : (i j : Bool) {a b c d : Float} → Value a → Value b → Value c → Value d → T (ordinary (pick j (pick i a b) (pick i c d)))
    → blend (end j) (blend (end i) a b) (blend (end i) c d) ≡ pick j (pick i a b) (pick i c d)
bilinear_own i false va vb vc vd o =
    let h = picked_own i va vb o in
    picked_own false (blend_value i va vb) (blend_value i vc vd) (rw h o) ∙ h
bilinear_own i true va vb vc vd o =
    let h = picked_own i vc vd o in
    picked_own true (blend_value i va vb) (blend_value i vc vd) (subst (λ (x : Float). T (ordinary x)) (sym h) o) ∙ h

bilinear_level : (i j : Bool) {a b c d : Float} → Value a → Value b → Value c → Value d
    → eq (blend (end j) (blend (end i) a b) (blend (end i) c d)) (pick j (pick i a b) (pick i c d)) ≡ true
bilinear_level i false va vb vc vd =
    eq_trans _ _ _ (picked_level false (blend_value i va vb) (blend_value i vc vd)) (picked_level i va vb)
bilinear_level i true va vb vc vd =
    eq_trans _ _ _ (picked_level true (blend_value i va vb) (blend_value i vc vd)) (picked_level i vc vd)

-- ---- p + q - r, where all three compare equal to a: beside a zero they are zeros, and else they are a to the bit

level_signs : (s t : Bool) (a : ℕ) → 0 < a → T (beq s t || eqb a 0) → s ≡ t
level_signs true true a p h = refl
level_signs false false a p h = refl
level_signs true false a p h = absurd (omega (arith, eqb→eq a 0 h))
level_signs false true a p h = absurd (omega (arith, eqb→eq a 0 h))

same_if_level : (f : Format) (x : Float) (s : Bool) (m : ℕ) (e : ℤ) → T (fits f x) → T (fits f (fin s (suc m) e)) → eq x (fin s (suc m) e) ≡ true
    → x ≡ fin s (suc m) e
unfolding eq
same_if_level f nan s m e t u h = impossible h
same_if_level f (inf z) s m e t u h = impossible h
same_if_level f (fin z n d) s m e t u h =
    let a = n * up d * down e in
    let b = suc m * up e * down d in
    let r = beq z s || eqb a 0 in
    let w : T (eqb a b && r) = true_T (eqb a b && r) h in
    let v : a ≡ b = eqb→eq a b (and_l (eqb a b) r w) in
    let p : 0 < b = mul-pos (mul-pos (omega arith) (up_pos e)) (down_pos d) in
    by_value f (fin z n d) s (suc m) e t u (level_signs z s a (omega arith) (and_r (eqb a b) r w), v)

zero_if_level : (f : Format) (x : Float) (s : Bool) → T (fits f x) → eq x (fin s 0 (pos 0)) ≡ true → (z : Bool) × (x ≡ fin z 0 (pos 0))
unfolding eq
zero_if_level f nan s t h = impossible h
zero_if_level f (inf z) s t h = impossible h
zero_if_level f (fin z zero e) s t h = (z, zero_is f z e t)
zero_if_level f (fin z (suc m) e) s t h =
    let a = suc m * up e * 1 in
    let b = 0 * 1 * down e in
    let r = beq z s || eqb a 0 in
    let v : a ≡ b = eqb→eq a b (and_l (eqb a b) r (true_T (eqb a b && r) h)) in
    let p : 0 < a = mul-pos (mul-pos (omega arith) (up_pos e)) (omega arith) in
    absurd (omega arith)

add_zeros : (s t : Bool) → add binary64 (fin s 0 (pos 0)) (fin t 0 (pos 0)) ≡ fin (s && t) 0 (pos 0)
unfolding add
add_zeros true true = refl
add_zeros true false = refl
add_zeros false true = refl
add_zeros false false = refl

sub_zeros : (s t : Bool) → sub binary64 (fin s 0 (pos 0)) (fin t 0 (pos 0)) ≡ fin (s && not t) 0 (pos 0)
unfolding sub
sub_zeros true true = refl
sub_zeros true false = refl
sub_zeros false true = refl
sub_zeros false false = refl

level_zeros : (s t : Bool) → eq (fin s 0 (pos 0)) (fin t 0 (pos 0)) ≡ true
unfolding eq
level_zeros true true = refl
level_zeros true false = refl
level_zeros false true = refl
level_zeros false false = refl

corner_zero : (p q r : Float) (s : Bool) → T (fits binary64 p) → T (fits binary64 q) → T (fits binary64 r)
    → eq p (fin s 0 (pos 0)) ≡ true → eq q (fin s 0 (pos 0)) ≡ true → eq r (fin s 0 (pos 0)) ≡ true
    → eq (sub binary64 (add binary64 p q) r) (fin s 0 (pos 0)) ≡ true
corner_zero p q r s tp tq tr hp hq hr =
    let x = zero_if_level binary64 p s tp hp in
    let y = zero_if_level binary64 q s tq hq in
    let z = zero_if_level binary64 r s tr hr in
    rw (x.1, y.1, z.1, add_zeros x.0 y.0, sub_zeros (x.0 && y.0) z.0) (level_zeros (x.0 && y.0 && not z.0) s)

combined_level : (p q r a : Float) → T (fits binary64 p) → T (fits binary64 q) → T (fits binary64 r) → T (fits binary64 a)
    → eq p a ≡ true → eq q a ≡ true → eq r a ≡ true → lt (float_abs a) two_1023 ≡ true → eq (sub binary64 (add binary64 p q) r) a ≡ true
unfolding lt float_abs of_bits
combined_level p q r nan tp tq tr t hp hq hr h = impossible h
combined_level p q r (inf s) tp tq tr t hp hq hr h = impossible h
combined_level p q r (fin s zero e) tp tq tr t hp hq hr h =
    let o = zero_is binary64 s e t in
    rw o (corner_zero p q r s tp tq tr (rw o at hp) (rw o at hq) (rw o at hr))
combined_level p q r (fin s (suc m) e) tp tq tr t hp hq hr h =
    let x = same_if_level binary64 p s m e tp t hp in
    let y = same_if_level binary64 q s m e tq t hq in
    let z = same_if_level binary64 r s m e tr t hr in
    level_of _ s (suc m) e (rw (x, y, z) (twice_less (fin s (suc m) e) t (suc_ordinary s m e) h))

-- ---- the corner at u = end i, v = end j

-- one coordinate of the ends of four curves
pub record Eight : Type 0 where
  pub bottom_start : Float
  pub bottom_end : Float
  pub right_start : Float
  pub right_end : Float
  pub top_start : Float
  pub top_end : Float
  pub left_start : Float
  pub left_end : Float

pub record Values (e : Eight) : Type 0 where
  pub bottom_start : Moderate e.bottom_start
  pub bottom_end : Moderate e.bottom_end
  pub right_start : Moderate e.right_start
  pub right_end : Moderate e.right_end
  pub top_start : Moderate e.top_start
  pub top_end : Moderate e.top_end
  pub left_start : Moderate e.left_start
  pub left_end : Moderate e.left_end

small_finite : (x : Float) → lt (float_abs x) two_1023 ≡ true → T (is_finite x)
unfolding lt float_abs is_finite of_bits
small_finite nan h = impossible h
small_finite (inf s) h = impossible h
small_finite (fin s m e) h = tt

value : {x : Float} → Moderate x → Value x
value {x} m = record { held = m.held; finite = small_finite x m.small }

picked : (k : Bool) {a b : Float} → Moderate a → Moderate b → Moderate (pick k a b)
picked false p q = p
picked true p q = q

module _ (i j : Bool) (e : Eight) where
  -- the end of bottom or top in that corner
  abbrev pub along_u : Float
  along_u = pick j (pick i e.bottom_start e.bottom_end) (pick i e.top_end e.top_start)

  -- the end of left or right there
  abbrev pub along_v : Float
  along_v = pick i (pick j e.left_end e.left_start) (pick j e.right_start e.right_end)

  -- the patch
  abbrev pub corner : Float
  corner =
      let ruled_v = blend (end j) (pick i e.bottom_start e.bottom_end) (pick i e.top_end e.top_start) in
      let ruled_u = blend (end i) (pick j e.left_end e.left_start) (pick j e.right_start e.right_end) in
      let bilinear = blend (end j) (blend (end i) e.bottom_start e.bottom_end) (blend (end i) e.top_end e.top_start) in
      sub binary64 (add binary64 ruled_v ruled_u) bilinear

  module _ (v : Values e) where
    lower : Moderate (pick i e.bottom_start e.bottom_end)
    lower = picked i v.bottom_start v.bottom_end

    upper : Moderate (pick i e.top_end e.top_start)
    upper = picked i v.top_end v.top_start

    leftward : Moderate (pick j e.left_end e.left_start)
    leftward = picked j v.left_end v.left_start

    rightward : Moderate (pick j e.right_start e.right_end)
    rightward = picked j v.right_start v.right_end

    pub moderate_u : Moderate along_u
    moderate_u = picked j lower upper

    pub moderate_v : Moderate along_v
    moderate_v = picked i leftward rightward

    -- one added, the other taken off
    pub corner_made : T (ordinary along_u) → T (ordinary along_v) → corner ≡ sub binary64 (add binary64 along_u along_v) along_u
    corner_made o w =
        let bilinear_is = bilinear_own i j (value v.bottom_start) (value v.bottom_end) (value v.top_end) (value v.top_start) o in
        rw (picked_own j (value lower) (value upper) o, picked_own i (value leftward) (value rightward) w, bilinear_is)

    -- the same value comes back to the bit
    pub corner_own : along_v ≡ along_u → T (ordinary along_u) → corner ≡ along_u
    corner_own h o =
        corner_made o (subst (λ (x : Float). T (ordinary x)) (sym h) o) ∙ rw h (twice_less along_u moderate_u.held o moderate_u.small)

    -- and an equal one, -0 for +0 too, comes back equal
    pub corner_level : eq along_v along_u ≡ true → eq corner along_u ≡ true
    corner_level h =
        let bilinear_is = bilinear_level i j (value v.bottom_start) (value v.bottom_end) (value v.top_end) (value v.top_start) in
        let ruled_u_is = eq_trans _ along_v along_u (picked_level i (value leftward) (value rightward)) h in
        combined_level _ _ _ along_u (add-fits binary64 _ _) (add-fits binary64 _ _) (add-fits binary64 _ _) moderate_u.held
        (picked_level j (value lower) (value upper)) ruled_u_is bilinear_is moderate_u.small

-- A blend of two values of binary64, (1 - t) a + t b, rounds nothing at t = 0 and at t = 1: times 1 a value stays, times 0 it is a zero, and a zero of
-- either sign added to a value other than -0 changes nothing. Assumes nothing.
use mathlib.Core.Path.{◌≡◌, refl}
use mathlib.Core.Bool.{Bool, true, false, not, ◌&&◌, cond}
use Prim.Native.Nat.{ℕ, zero, suc, ◌+◌, ◌-◌, ◌*◌, ◌<◌, ◌≤◌}
use native.Mathlib.Nat.{mul-pos, mul-one, one-mul, zero-mul, add-zero, zero-add, sub-zero}
use native.Mathlib.Omega.{arith}
use borrow.Author.Tests.{le-ltb, lt-ltb, ltb-false}
use lib.Dec.{T, ltb, eqb}
use lib.IntN.{ℤ, pos}
use lib.Ieee.{Float, nan, inf, fin, Format, binary64, up, down, round, sum, add, sub, mul, fits, of_bits}
use lib.Ieee.Fits.{down_pos, up_pos}
use Rattle.floats.specs.Scalar.{nought, one, is_finite}
use Rattle.floats.proofs.scalar.Exact.{zero_fits, round_to}

-- ---- times 0 and times 1

-- a zero of y's sign
pub zero_times : (f : Format) (t : Bool) (n : ℕ) (d : ℤ) → mul f (fin false 0 (pos 0)) (fin t n d) ≡ fin t 0 (pos 0)
unfolding mul
zero_times f false n d = round_to f false (0 * 1 * (n * up d)) (1 * down d) 0 (pos 0) (zero_fits f false) (mul-pos (omega arith) (down_pos d)) (simp zero-mul)
zero_times f true n d = round_to f true (0 * 1 * (n * up d)) (1 * down d) 0 (pos 0) (zero_fits f true) (mul-pos (omega arith) (down_pos d)) (simp zero-mul)

one_times : (f : Format) (t : Bool) (n : ℕ) (d : ℤ) → T (fits f (fin t n d)) → mul f (fin false 1 (pos 0)) (fin t n d) ≡ fin t n d
unfolding mul
one_times f false n d h = round_to f false (1 * 1 * (n * up d)) (1 * down d) n d h (mul-pos (omega arith) (down_pos d)) (simp one-mul)
one_times f true n d h = round_to f true (1 * 1 * (n * up d)) (1 * down d) n d h (mul-pos (omega arith) (down_pos d)) (simp one-mul)

-- ---- a zero of either sign added: a / c is m * 2 ^ e in size, and not zero where its sign is minus

module _ (f : Format) (a c m : ℕ) (e : ℤ) (C : 0 < c) (h : a * down e ≡ m * up e * c) where
  sum_zero : (s t : Bool) → T (fits f (fin s m e)) → (T s → 0 < a) → sum f s a t 0 c ≡ fin s m e
  unfolding sum
  sum_zero false false g n = round_to f false (a + 0) c m e g C (simp add-zero h)
  sum_zero true true g n = round_to f true (a + 0) c m e g C (simp add-zero h)
  sum_zero false true g n = rw (le-ltb a 0 (omega arith)) (round_to f false (a - 0) c m e g C (simp sub-zero h))
  sum_zero true false g n = rw (le-ltb a 0 (omega arith), lt-ltb 0 a (n tt)) (round_to f true (a - 0) c m e g C (simp sub-zero h))

  zero_sum : (s t : Bool) → T (fits f (fin s m e)) → (T s → 0 < a) → sum f t 0 s a c ≡ fin s m e
  unfolding sum
  zero_sum false false g n = round_to f false (0 + a) c m e g C (simp zero-add h)
  zero_sum true true g n = round_to f true (0 + a) c m e g C (simp zero-add h)
  zero_sum true false g n = rw (lt-ltb 0 a (n tt)) (round_to f true (a - 0) c m e g C (simp sub-zero h))
  zero_sum false true g n = go (ltb 0 a) (ltb-false 0 a)
    where
      go : (b : Bool) → (b ≡ false → a ≤ 0) → cond b (round f false (a - 0) c) (round f (true && ltb a 0) (0 - a) c) ≡ fin false m e
      go true l = round_to f false (a - 0) c m e g C (simp sub-zero h)
      go false l = let z : 0 - a ≡ a = omega (arith, l refl) in rw (le-ltb a 0 (omega arith), z) (round_to f false a c m e g C h)

-- neither NaN nor infinite nor -0
abbrev pub ordinary : Float → Bool
ordinary nan = false
ordinary (inf s) = false
ordinary (fin s m e) = not (s && eqb m 0)

pub ordinary_finite : (x : Float) → T (ordinary x) → T (is_finite x)
unfolding is_finite
ordinary_finite nan h = absurd h
ordinary_finite (inf s) h = absurd h
ordinary_finite (fin s m e) h = tt

above_zero : (s : Bool) (m : ℕ) (e : ℤ) (a c : ℕ) → T (ordinary (fin s m e)) → 0 < c → a * down e ≡ m * up e * c → T s → 0 < a
above_zero false m e a c p C h t = absurd t
above_zero true zero e a c p C h t = absurd p
above_zero true (suc m) e zero c p C h t =
    let q : 0 < suc m * up e * c = mul-pos (mul-pos (omega arith) (up_pos e)) C in
    absurd (omega arith)
above_zero true (suc m) e (suc a) c p C h t = omega arith

add_zero_right : (f : Format) (s : Bool) (m : ℕ) (e : ℤ) (t : Bool) → T (fits f (fin s m e)) → T (ordinary (fin s m e))
    → add f (fin s m e) (fin t 0 (pos 0)) ≡ fin s m e
unfolding add
add_zero_right f s m e t g p =
    let C : 0 < down e * 1 = mul-pos (down_pos e) (omega arith) in
    let h : m * up e * 1 * down e ≡ m * up e * (down e * 1) = simp mul-one in
    rw (zero-mul (down e)) (sum_zero f (m * up e * 1) (down e * 1) m e C h s t g (above_zero s m e (m * up e * 1) (down e * 1) p C h))

add_zero_left : (f : Format) (s : Bool) (m : ℕ) (e : ℤ) (t : Bool) → T (fits f (fin s m e)) → T (ordinary (fin s m e))
    → add f (fin t 0 (pos 0)) (fin s m e) ≡ fin s m e
unfolding add
add_zero_left f s m e t g p =
    let C : 0 < 1 * down e = mul-pos (omega arith) (down_pos e) in
    let h : m * up e * 1 * down e ≡ m * up e * (1 * down e) = simp (mul-one, one-mul) in
    rw (zero-mul (down e)) (zero_sum f (m * up e * 1) (1 * down e) m e C h s t g (above_zero s m e (m * up e * 1) (1 * down e) p C h))

-- ---- between two values

pub nought_is : nought ≡ fin false 0 (pos 0)
unfolding of_bits
nought_is = refl

pub one_is : one ≡ fin false 1 (pos 0)
unfolding of_bits
one_is = refl

pub rest_nought : sub binary64 one nought ≡ one
unfolding sub of_bits
rest_nought = refl

pub rest_one : sub binary64 one one ≡ nought
unfolding sub of_bits
rest_one = refl

pub at_nought : (a b : Float) → T (fits binary64 a) → T (ordinary a) → T (is_finite b)
    → add binary64 (mul binary64 (sub binary64 one nought) a) (mul binary64 nought b) ≡ a
unfolding is_finite
at_nought nan b g p q = absurd p
at_nought (inf s) b g p q = absurd p
at_nought (fin s m e) nan g p q = absurd q
at_nought (fin s m e) (inf t) g p q = absurd q
at_nought (fin s m e) (fin t n d) g p q =
    rw rest_nought (simp (nought_is, one_is, one_times binary64 s m e g, zero_times binary64 t n d, add_zero_right binary64 s m e t g p))

pub at_one : (a b : Float) → T (fits binary64 b) → T (is_finite a) → T (ordinary b)
    → add binary64 (mul binary64 (sub binary64 one one) a) (mul binary64 one b) ≡ b
unfolding is_finite
at_one nan b g p q = absurd p
at_one (inf s) b g p q = absurd p
at_one (fin s m e) nan g p q = absurd q
at_one (fin s m e) (inf t) g p q = absurd q
at_one (fin s m e) (fin t n d) g p q =
    rw rest_one (simp (nought_is, one_is, one_times binary64 t n d g, zero_times binary64 s m e, add_zero_left binary64 t n d s g q))

-- The special operands, a NaN, the zeros, the infinities and what is below zero, by their bit patterns and by the code's tests; and what `root` tells of them. Assumes nothing.
use mathlib.Core.Path.{◌≡◌, refl, sym, ap, ◌∙◌}
use mathlib.Core.Bool.{Bool, true, false, cond}
use Prim.Native.Nat.{ℕ, zero, suc, ◌+◌, ◌*◌, ◌/◌, ◌%◌, ◌^◌, ◌≤◌, ◌<◌}
use native.Mathlib.Nat.{mul-pos, zero-lt-suc}
use native.Mathlib.Omega.{arith}
use Rattle.std.specs.Prelude.{Ok, Err}
use borrow.Author.Tests.{le-leb, ltb-true, ltb-false}
use lib.Dec.{T, ltb, eqb, eqb-suc-zero, nltb→le}
use lib.Pow.{pow_pos}
use lib.Ieee.{Float, nan, inf, fin, binary64, up, down, fits, odd, of_fields, of_bits, to_bits, is_nan, lt}
use lib.Ieee.Bits.{of_bits-to_bits, to_bits-lt, nan_bits_is, nan_bits_above}
use lib.Ieee.Fits.{up_pos, down_pos}
use lib.Ieee.Exact.{HasValue, odd_sign}
use Rattle.base.specs.Answers.{answered}
use Rattle.base.specs.Refusal.{verdict_of}
use Rattle.base.specs.declared.refusal.Refusal.TheVariants.{RootUndefined}
use Rattle.floats.specs.Root.{root, root_answer, rootless}
use Rattle.floats.proofs.scalar.Laws.{impossible}

-- ---- the answer goes by `rootless`

refused_told : (x : Float) → rootless x ≡ true → answered {A = Float} (Err RootUndefined) ≡ root_answer x
unfolding verdict_of root_answer
refused_told x e = rw e refl

value_told : (x : Float) → rootless x ≡ false → answered (Ok (root binary64 x)) ≡ root_answer x
unfolding root_answer
value_told x e = rw e refl

-- ---- a NaN

rootless_nan : (x : Float) → is_nan x ≡ true → rootless x ≡ true
unfolding is_nan rootless
rootless_nan nan h = refl
rootless_nan (inf s) h = impossible h
rootless_nan (fin s m e) h = impossible h

pub told_nan : (x : Float) → is_nan x ≡ true → answered {A = Float} (Err RootUndefined) ≡ root_answer x
told_nan x h = refused_told x (rootless_nan x h)

pub root_nan : (x : Float) → is_nan x ≡ true → x ≡ root binary64 x
unfolding is_nan root
root_nan nan h = refl
root_nan (inf s) h = impossible h
root_nan (fin s m e) h = impossible h

-- ---- the zeros and +infinity

own_root : (x : Float) (b : ℕ) → T (fits binary64 x) → to_bits binary64 x ≡ b → of_bits binary64 b ≡ root binary64 (of_bits binary64 b) → x ≡ root binary64 x
own_root x b h e r = rw (← (of_bits-to_bits binary64 x h), e) r

pub root_zero : (x : Float) → T (fits binary64 x) → to_bits binary64 x ≡ 0 → x ≡ root binary64 x
unfolding root of_bits
root_zero x h e = own_root x _ h e refl

pub root_minus_zero : (x : Float) → T (fits binary64 x) → to_bits binary64 x ≡ 0x8000_0000_0000_0000 → x ≡ root binary64 x
unfolding root of_bits
root_minus_zero x h e = own_root x _ h e refl

pub root_infinity : (x : Float) → T (fits binary64 x) → to_bits binary64 x ≡ 0x7ff0_0000_0000_0000 → x ≡ root binary64 x
unfolding root of_bits
root_infinity x h e = own_root x _ h e refl

-- ---- below zero

below_zero : (x : Float) (a c : ℕ) → 0 < a → HasValue x true a c → rootless x ≡ true
unfolding rootless
below_zero nan a c h v = absurd v
below_zero (inf s) a c h v = absurd v
below_zero (fin s zero e) a c h v = let p : 0 < a * down e = mul-pos h (down_pos e) in absurd (omega arith)
below_zero (fin s (suc m) e) a c h v = rw (v.0, eqb-suc-zero m) refl

fields_below : (x t : ℕ) → 0 < x + t → rootless (of_fields binary64 true x t) ≡ true
unfolding of_fields rootless
fields_below zero t h = below_zero _ (t * 2 ^ 0) (2 ^ 1074) (mul-pos {m = t} (omega arith) (pow_pos 0)) (odd_sign 53 true t 0 1074)
fields_below (suc x) t h = go (eqb (suc x) 2047) (eqb t 0)
  where
    go : (a b : Bool) → rootless (cond a (cond b (inf true) nan) (odd 53 true (0x10_0000_0000_0000 + t) x 1074)) ≡ true
    go true true = refl
    go true false = refl
    go false b =
        let m = 0x10_0000_0000_0000 + t in
        below_zero _ (m * 2 ^ x) (2 ^ 1074) (mul-pos {m = m} (omega arith) (pow_pos x)) (odd_sign 53 true m x 1074)

signed : (b : ℕ) → 0x8000_0000_0000_0000 ≤ b
    → of_bits binary64 b ≡ of_fields binary64 true (b % 0x8000_0000_0000_0000 / 0x10_0000_0000_0000) (b % 0x10_0000_0000_0000)
unfolding of_bits
signed b h = rw (le-leb 0x8000_0000_0000_0000 b h) refl

no_root : (x : Float) → rootless x ≡ true → nan ≡ root binary64 x
unfolding root rootless
no_root nan h = refl
no_root (inf s) h = rw h refl
no_root (fin true zero e) h = impossible h
no_root (fin false zero e) h = impossible h
no_root (fin true (suc m) e) h = refl
no_root (fin false (suc m) e) h = impossible h

pub root_below : (x : Float) → T (fits binary64 x) → 0x8000_0000_0000_0000 < to_bits binary64 x → nan ≡ root binary64 x
root_below x h l =
    let b = to_bits binary64 x in
    let u = to_bits-lt binary64 x h in
    no_root x (rw (← (of_bits-to_bits binary64 x h), signed b (omega arith)) (fields_below _ _ (omega arith)))

-- `f64::NAN`
pub nan_constant : of_bits binary64 0x7ff8_0000_0000_0000 ≡ nan
unfolding of_bits
nan_constant = refl

-- ---- what has no root is a NaN or below zero, as `<` says

below_is : (x : Float) → lt x (of_bits binary64 0) ≡ true → rootless x ≡ true
unfolding of_bits lt rootless
below_is nan h = refl
below_is (inf s) h = h
below_is (fin true zero e) h = absurd (omega (arith, ltb-true _ _ h))
below_is (fin true (suc m) e) h = rw (eqb-suc-zero m) refl
below_is (fin false m e) h = absurd (omega (arith, ltb-true _ _ h))

not_below : (x : Float) → is_nan x ≡ false → lt x (of_bits binary64 0) ≡ false → rootless x ≡ false
unfolding of_bits lt rootless is_nan
not_below nan n h = impossible (sym n)
not_below (inf s) n h = h
not_below (fin true zero e) n h = refl
not_below (fin true (suc m) e) n h =
    let p : 0 < suc m * up e = mul-pos (zero-lt-suc m) (up_pos e) in
    absurd (omega (arith, ltb-false _ _ h))
not_below (fin false m e) n h = refl

pub told_below : (x : Float) → lt x (of_bits binary64 0) ≡ true → answered {A = Float} (Err RootUndefined) ≡ root_answer x
told_below x h = refused_told x (below_is x h)

pub told_value : (x : Float) → is_nan x ≡ false → lt x (of_bits binary64 0) ≡ false → answered (Ok (root binary64 x)) ≡ root_answer x
told_value x n h = value_told x (not_below x n h)

-- ---- from +infinity's pattern up there are -0 and what is below zero

pub pattern_below : (x : Float) → T (fits binary64 x) → is_nan x ≡ false → 0x7ff0_0000_0000_0000 ≤ to_bits binary64 x
    → (to_bits binary64 x ≡ 0x8000_0000_0000_0000 → ⊥) → (to_bits binary64 x ≡ 0x7ff0_0000_0000_0000 → ⊥) → 0x8000_0000_0000_0000 < to_bits binary64 x
pattern_below x h n u b c =
    let p = to_bits binary64 x in
    let e : ltb 0x7ff0_0000_0000_0000 (p % 0x8000_0000_0000_0000) ≡ is_nan x =
    sym (nan_bits_above binary64 p) ∙ nan_bits_is binary64 p ∙ ap is_nan (of_bits-to_bits binary64 x h) in
    let l : p % 0x8000_0000_0000_0000 ≤ 0x7ff0_0000_0000_0000 = nltb→le 0x7ff0_0000_0000_0000 (p % 0x8000_0000_0000_0000) (rw (e, n) tt) in
    omega arith

-- The amount of a value, in units of the format's smallest value: it is the value's own, it has no more digits than the format keeps (`digits_of`), and it says which value it is
-- (`same_value`). Assumes nothing.
use mathlib.Core.Path.{◌≡◌, sym, ap, ◌∙◌}
use mathlib.Core.Bool.{Bool, false, not, ◌&&◌, cond}
use Prim.Native.Nat.{ℕ, zero, suc, ◌+◌, ◌-◌, ◌*◌, ◌/◌, ◌%◌, ◌^◌, ◌≤◌, ◌<◌}
use native.Mathlib.Nat.{mul-pos, mul-lt-mul_of_pos_right, lt_of_mul-lt-mul_right, mul_assoc, mul-one, zero-mul, mul-div_cancel, mul_right_comm}
use lib.IntN.{ℤ, pos, negsuc}
use lib.Dec.{T, leb, ltb, eqb, leb→le, ltb→lt}
use lib.Pow.{pow-add, pow_pos}
use lib.Ieee.{Float, nan, inf, fin, Format, prec, emax, low, up, down, size, fits, top, hid, to_bits, of_bits}
use lib.Ieee.Fits.{and_l, and_r, and_i, down_pos}
use lib.Ieee.Bits.{is_false, of_bits-to_bits}
use lib.Ieee.Digits.{back}
use lib.Ieee.Exact.{HasValue}
use Rattle.floats.specs.Root.{amount, radicand, among}
use Rattle.floats.proofs.root.Numbers.{exponents_le}

-- ---- what has a value has that amount

pub amount_of : (f : Format) (x : Float) (s : Bool) (a : ℕ) → HasValue x s a (2 ^ low f) → amount f x ≡ a
unfolding amount
amount_of f nan s a v = absurd v
amount_of f (inf t) s a v = absurd v
amount_of f (fin t m e) s a v = ap (λ (x : ℕ). x / down e) v.1 ∙ mul-div_cancel a (down_pos e)

-- ---- `among` is `fits` with the sign clear

pub among_of : (f : Format) (x : Float) (a : ℕ) → T (fits f x) → HasValue x false a (2 ^ low f) → T (among f x)
unfolding among
among_of f nan a h v = absurd v
among_of f (inf s) a h v = absurd v
among_of f (fin s m e) a h v = and_i (not s) (fits f (fin s m e)) (rw v.0 tt) h

pub fits_of : (f : Format) (x : Float) → T (among f x) → T (fits f x)
unfolding among
fits_of f nan h = absurd h
fits_of f (inf s) h = absurd h
fits_of f (fin s m e) h = and_r (not s) (fits f (fin s m e)) h

clear_sign : (f : Format) (s : Bool) (m : ℕ) (e : ℤ) → T (among f (fin s m e)) → s ≡ false
unfolding among
clear_sign f s m e h = is_false s (and_l (not s) (fits f (fin s m e)) h)

-- what `fits` says of a value that is not zero
pub record Fitting (f : Format) (m : ℕ) (e : ℤ) : Type 0 where
  pub few : m < 2 ^ prec f
  pub fine : down e ≤ 2 ^ low f
  pub bounded : m * up e < 2 ^ suc (emax f) * down e

pub fitting : (f : Format) (s : Bool) (m : ℕ) (e : ℤ) → T (fits f (fin s (suc m) e)) → Fitting f (suc m) e
unfolding fits
fitting f s m e h =
    let a = eqb (suc m % 2) 1 in
    let b = ltb (suc m) (2 ^ prec f) in
    let c = leb (down e) (2 ^ low f) in
    let d = ltb (suc m * up e) (2 ^ suc (emax f) * down e) in
    let abc : T (a && b && c) = and_l (a && b && c) d h in
    record {
      few = ltb→lt (suc m) (2 ^ prec f) (and_r a b (and_l (a && b) c abc));
      fine = leb→le (down e) (2 ^ low f) (and_r (a && b) c abc);
      bounded = ltb→lt (suc m * up e) (2 ^ suc (emax f) * down e) (and_r (a && b && c) d h);
    }

-- ---- a value of the format is `digits` * 2 ^ `power` smallest values, with no more digits than the format keeps

pub record Digits (f : Format) (y : Float) : Type 0 where
  pub digits : ℕ
  pub power : ℕ
  pub few : digits < 2 ^ prec f
  pub value : HasValue y false (digits * 2 ^ power) (2 ^ low f)

placed : (l : ℕ) (e : ℤ) → down e ≤ 2 ^ l → (j : ℕ) × ((m : ℕ) → m * up e * 2 ^ l ≡ m * 2 ^ j * down e)
placed l (pos a) h = (a + l, λ m. mul_assoc m (2 ^ a) (2 ^ l) ∙ ap (λ (x : ℕ). m * x) (sym (pow-add 2 a l)) ∙ sym (mul-one (m * 2 ^ (a + l))))
placed l (negsuc a) h = (
  l - suc a,
  λ m.
      ap (λ (x : ℕ). x * 2 ^ l) (mul-one m)
      ∙ ap (λ (x : ℕ). m * 2 ^ x) (sym (back l (suc a) (exponents_le (suc a) l h)))
      ∙ ap (λ (x : ℕ). m * x) (pow-add 2 (l - suc a) (suc a))
      ∙ sym (mul_assoc m (2 ^ (l - suc a)) (2 ^ suc a)),
)

pub digits_of : (f : Format) (y : Float) → T (among f y) → Digits f y
unfolding among
digits_of f nan h = absurd h
digits_of f (inf s) h = absurd h
digits_of f (fin s zero e) h =
    record { digits = 0; power = 0; few = pow_pos (prec f); value = (clear_sign f s 0 e h, zeros (up e) (2 ^ low f) (down e)) }
  where
    zeros : (u l d : ℕ) → 0 * u * l ≡ 0 * 1 * d
    zeros u l d = ap (λ (x : ℕ). x * l) (zero-mul u) ∙ zero-mul l ∙ sym (zero-mul d)
digits_of f (fin s (suc m) e) h =
    let t = fitting f s m e (fits_of f (fin s (suc m) e) h) in
    let p = placed (low f) e t.fine in
    record { digits = suc m; power = p.0; few = t.few; value = (clear_sign f s (suc m) e h, p.1 (suc m)) }

pub amount_digits : (f : Format) (y : Float) → (d : Digits f y) → amount f y ≡ d.digits * 2 ^ d.power
amount_digits f y d = amount_of f y false (d.digits * 2 ^ d.power) d.value

-- so the radicand has no more digits either
pub radicand_digits : (f : Format) (y : Float) → (d : Digits f y) → d.digits * 2 ^ (d.power + low f) ≡ radicand f y
radicand_digits f y d = ap (λ (x : ℕ). d.digits * x) (pow-add 2 d.power (low f)) ∙ sym (mul_assoc d.digits (2 ^ d.power) (2 ^ low f))
    ∙ ap (λ (x : ℕ). x * 2 ^ low f) (sym (amount_digits f y d))

pub own_amount : (f : Format) (y : Float) → T (among f y) → HasValue y false (amount f y) (2 ^ low f)
own_amount f y h =
    let d = digits_of f y h in
    rw (amount_digits f y d) d.value

-- ---- two values of a format that are the same number with the same sign are the same, since the bit patterns are

bits_of : (f : Format) (x : Float) (s : Bool) (a : ℕ) → HasValue x s a (2 ^ low f)
    → to_bits f x ≡ cond s (top f) 0 + (size a - prec f) * hid f + a / 2 ^ (size a - prec f)
unfolding to_bits
bits_of f nan s a v = absurd v
bits_of f (inf t) s a v = absurd v
bits_of f (fin t m e) s a v = rw (v.0, v.1, mul-div_cancel a (down_pos e))

pub same_value : (f : Format) (x y : Float) (s : Bool) (a : ℕ) → T (fits f x) → T (fits f y) → HasValue x s a (2 ^ low f) → HasValue y s a (2 ^ low f) → x ≡ y
same_value f x y s a p q v w = sym (of_bits-to_bits f x p) ∙ ap (λ (b : ℕ). of_bits f b) (bits_of f x s a v ∙ sym (bits_of f y s a w)) ∙ of_bits-to_bits f y q

-- ---- an amount is below 2 ^ (emax + 1), in units of 1

below_top : (f : Format) (m : ℕ) (e : ℤ) (a : ℕ) → m * up e * 2 ^ low f ≡ a * down e → m * up e < 2 ^ suc (emax f) * down e → a < 2 ^ (suc (emax f) + low f)
below_top f m e a v h =
    let w : m * up e * 2 ^ low f < 2 ^ suc (emax f) * down e * 2 ^ low f = mul-lt-mul_of_pos_right h (pow_pos (low f)) in
    let r : 2 ^ suc (emax f) * down e * 2 ^ low f ≡ 2 ^ (suc (emax f) + low f) * down e = mul_right_comm (2 ^ suc (emax f)) (down e) (2 ^ low f)
    ∙ ap (λ (x : ℕ). x * down e) (sym (pow-add 2 (suc (emax f)) (low f))) in
    lt_of_mul-lt-mul_right (down e) (rw (← v) (rw (← r) w))

pub amount_lt : (f : Format) (x : Float) → T (among f x) → amount f x < 2 ^ (suc (emax f) + low f)
unfolding among
amount_lt f x h = go x h (own_amount f x h)
  where
    go : (x : Float) → T (among f x) → HasValue x false (amount f x) (2 ^ low f) → amount f x < 2 ^ (suc (emax f) + low f)
    go nan h v = absurd h
    go (inf s) h v = absurd h
    go (fin s zero e) h v = below_top f 0 e (amount f (fin s 0 e)) v.1 (rw zero-mul (mul-pos (pow_pos (suc (emax f))) (down_pos e)))
    go (fin s (suc m) e) h v = below_top f (suc m) e (amount f (fin s (suc m) e)) v.1 (fitting f s m e (fits_of f (fin s (suc m) e) h)).bounded

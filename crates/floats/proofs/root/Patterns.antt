-- What the bit patterns of finite values of binary64, +0 and up, stand for (`subnormal`, `normal`), and the 53 digits that the code makes of them (`subnormal_digits`, `normal_digits`).
-- Assumes nothing.
use mathlib.Core.Path.{◌≡◌, refl, sym, ap, ◌∙◌, subst}
use mathlib.Core.Bool.{Bool, false, cond}
use Prim.Native.Nat.{ℕ, suc, ◌+◌, ◌-◌, ◌*◌, ◌/◌, ◌%◌, ◌^◌, ◌≤◌, ◌<◌}
use native.Mathlib.Nat.{lt_of_not-le, lt_of_lt_of_le, le_trans, le_of_eq, mul-le-mul_right, mul-pos, not-le_of_lt, mod-eq_of_lt, mul-one, mul_assoc, zero-lt-suc}
use native.Mathlib.Omega.{arith}
use native.Mathlib.Decide.{dec_le}
use lib.Dec.{T, leb, eqb, leb→le, eqb→eq, not_T}
use lib.Pow.{pow-add, pow_pos, pow_mono, shl_exact, shl_lt}
use lib.Count.{count_leading_zeros, leading_top}
use lib.Ieee.{Float, nan, inf, binary64, low, odd, of_fields, of_bits}
use lib.Ieee.Bits.{is_false, cond_no, of_bits-fits}
use lib.Ieee.Exact.{HasValue, odd_sign}
use lib.Ieee.Positive.{first_pos}
use Rattle.floats.specs.Root.{amount, radicand, among}
use Rattle.floats.specs.inner.RootSteps.{Normal}
use Rattle.floats.proofs.root.Amounts.{amount_of, among_of}

of_bits_is : (b : ℕ) → of_bits binary64 b ≡ of_fields binary64 (leb 0x8000_0000_0000_0000 b) (b % 0x8000_0000_0000_0000 / 0x10_0000_0000_0000) (b % 0x10_0000_0000_0000)
unfolding of_bits
of_bits_is b = refl

unsigned : (b : ℕ) → b < 0x8000_0000_0000_0000 → of_bits binary64 b ≡ of_fields binary64 false (b / 0x10_0000_0000_0000) (b % 0x10_0000_0000_0000)
unsigned b h =
    of_bits_is b
    ∙ ap (λ (s : Bool). of_fields binary64 s (b % 0x8000_0000_0000_0000 / 0x10_0000_0000_0000) (b % 0x10_0000_0000_0000))
    (is_false (leb 0x8000_0000_0000_0000 b) (not_T (leb 0x8000_0000_0000_0000 b) (λ u. not-le_of_lt h (leb→le 0x8000_0000_0000_0000 b u))))
    ∙ ap (λ (x : ℕ). of_fields binary64 false (x / 0x10_0000_0000_0000) (b % 0x10_0000_0000_0000)) (mod-eq_of_lt h)

at_zero : (t : ℕ) → of_fields binary64 false 0 t ≡ odd 53 false t 0 1074
unfolding of_fields
at_zero t = refl

differ : (x : ℕ) → suc x < 2047 → suc x ≡ 2047 → ⊥
differ x h e = omega arith

under_ones : (t x : ℕ) → suc x < 2047 → of_fields binary64 false (suc x) t ≡ odd 53 false (0x10_0000_0000_0000 + t) x 1074
unfolding of_fields
under_ones t x h = cond_no (eqb (suc x) 2047) (cond (eqb t 0) (inf false) nan) (odd 53 false (0x10_0000_0000_0000 + t) x 1074)
    (not_T (eqb (suc x) 2047) (λ (u : T (eqb (suc x) 2047)). differ x h (eqb→eq (suc x) 2047 u)))

-- ---- the value of a pattern, below the smallest normal value and from it up

pub subnormal : (b : ℕ) → b < 0x10_0000_0000_0000 → HasValue (of_bits binary64 b) false (b * 2 ^ 0) (2 ^ low binary64)
subnormal b h =
    let field : b / 0x10_0000_0000_0000 ≡ 0 = omega arith in
    let rest : b % 0x10_0000_0000_0000 ≡ b = omega arith in
    rw (unsigned b (omega arith), field, rest, at_zero b) (odd_sign 53 false b 0 1074)

-- x is the exponent's field less one, and m has the leading digit
pub normal : (b m x : ℕ) → b ≡ x * 0x10_0000_0000_0000 + m → 0x10_0000_0000_0000 ≤ m → m < 0x20_0000_0000_0000 → x < 2046
    → HasValue (of_bits binary64 b) false (m * 2 ^ x) (2 ^ low binary64)
normal b m x e lo hi X =
    subst (λ (y : Float). HasValue y false (m * 2 ^ x) (2 ^ low binary64))
    (sym
    (unsigned b (omega arith)
    ∙ ap (λ (y : ℕ). of_fields binary64 false y (b % 0x10_0000_0000_0000)) (omega arith)
    ∙ under_ones (b % 0x10_0000_0000_0000) x (omega arith)
    ∙ ap (λ (y : ℕ). odd 53 false y x 1074) (omega arith)))
    (odd_sign 53 false m x 1074)

-- ---- the square of the exact root

radicand_subnormal : (b z : ℕ) → b < 0x10_0000_0000_0000 → z ≤ 1074 → b * 2 ^ z * 2 ^ (1074 - z) ≡ radicand binary64 (of_bits binary64 b)
radicand_subnormal b z h l =
    mul_assoc b (2 ^ z) (2 ^ (1074 - z))
    ∙ ap (λ (y : ℕ). b * y) (sym (pow-add 2 z (1074 - z)) ∙ ap (λ (y : ℕ). 2 ^ y) (join z l))
    ∙ ap (λ (y : ℕ). y * 2 ^ 1074) (sym (amount_of binary64 (of_bits binary64 b) false (b * 2 ^ 0) (subnormal b h) ∙ mul-one b))
  where
    join : (z : ℕ) → z ≤ 1074 → z + (1074 - z) ≡ 1074
    join z l = omega arith

radicand_normal : (b m x : ℕ) → b ≡ x * 0x10_0000_0000_0000 + m → 0x10_0000_0000_0000 ≤ m → m < 0x20_0000_0000_0000 → x < 2046
    → m * 2 ^ (x + 1074) ≡ radicand binary64 (of_bits binary64 b)
radicand_normal b m x e lo hi X =
    ap (λ (y : ℕ). m * y) (pow-add 2 x 1074)
    ∙ sym (mul_assoc m (2 ^ x) (2 ^ 1074))
    ∙ ap (λ (y : ℕ). y * 2 ^ 1074) (sym (amount_of binary64 (of_bits binary64 b) false (m * 2 ^ x) (normal b m x e lo hi X)))

-- ---- the digits of a subnormal value, and of a normal one

pub record Lead (b t l : ℕ) : Type 0 where
  pub j : ℕ
  pub zeros : l + suc j ≡ 64
  pub low_bound : 2 ^ j ≤ b
  pub high_bound : b < 2 ^ suc j
  pub same : t ≡ b
  pub few : j < 52

pub lead_of : (b : ℕ) → 0 < b → b / 0x10_0000_0000_0000 ≡ 0 → Lead b (b % 0x10_0000_0000_0000) (count_leading_zeros 64 (b % 0x10_0000_0000_0000))
lead_of b P e =
    let s : b % 0x10_0000_0000_0000 ≡ b = omega arith in
    let t = leading_top 64 b P (omega arith) in
    record {
      j = t.0;
      zeros = ap (λ (x : ℕ). count_leading_zeros 64 x + suc t.0) s ∙ t.1;
      low_bound = t.2;
      high_bound = t.3;
      same = s;
      few = lt_of_not-le (λ (g : 52 ≤ t.0). not-le_of_lt (omega arith) (le_trans (pow_mono g) t.2));
    }

pub subnormal_digits : (b t l : ℕ) → Lead b t l → Normal b (t * 2 ^ (l - 11) % 2 ^ 64) (1074 - (l - 11))
subnormal_digits b t l h =
    let j = h.j in
    let z = l - 11 in
    let e : j + z ≡ 52 = omega arith in
    let f : suc j + z ≡ 53 = omega arith in
    let x : t * 2 ^ z % 2 ^ 64 ≡ b * 2 ^ z = ap (λ (y : ℕ). y * 2 ^ z % 2 ^ 64) h.same ∙ shl_exact (suc j) z 64 h.high_bound (omega arith) in
    let hi : b * 2 ^ z < 2 ^ 53 = rw f at (shl_lt (suc j) z h.high_bound) in
    let lo : 2 ^ 52 ≤ b * 2 ^ z = le_trans (le_of_eq (ap (λ (y : ℕ). 2 ^ y) (sym e) ∙ pow-add 2 j z)) (mul-le-mul_right (2 ^ z) h.low_bound) in
    let small : b < 2 ^ 52 = lt_of_lt_of_le h.high_bound (pow_mono h.few) in
    rw x (record { lead = lo; full = hi; low = omega arith; high = omega arith; value = radicand_subnormal b z small (omega arith) })

pub normal_digits : (b : ℕ) → b < 0x7ff0_0000_0000_0000 → (b / 0x10_0000_0000_0000 ≡ 0 → ⊥)
    → Normal b (b % 0x10_0000_0000_0000 + 0x10_0000_0000_0000) (b / 0x10_0000_0000_0000 + 1073)
normal_digits b h n =
    let m = b % 0x10_0000_0000_0000 + 0x10_0000_0000_0000 in
    let x = b / 0x10_0000_0000_0000 - 1 in
    let e : b ≡ x * 0x10_0000_0000_0000 + m = omega arith in
    let f : x + 1074 ≡ b / 0x10_0000_0000_0000 + 1073 = omega arith in
    record {
      lead = omega arith;
      full = omega arith;
      low = omega arith;
      high = omega arith;
      value = ap (λ (y : ℕ). m * 2 ^ y) (sym f) ∙ radicand_normal b m x e (omega arith) (omega arith) (omega arith);
    }

-- ---- every pattern below infinity's is a value, +0 or above, and above zero if the pattern is

has_value : (b : ℕ) → b < 0x7ff0_0000_0000_0000 → (a : ℕ) × HasValue (of_bits binary64 b) false a (2 ^ low binary64)
has_value b h = go (dec_le 0x10_0000_0000_0000 b)
  where
    go : Dec (0x10_0000_0000_0000 ≤ b) → (a : ℕ) × HasValue (of_bits binary64 b) false a (2 ^ low binary64)
    go (yes l) =
        let m = b % 0x10_0000_0000_0000 + 0x10_0000_0000_0000 in
        let x = b / 0x10_0000_0000_0000 - 1 in
        (m * 2 ^ x, normal b m x (omega arith) (omega arith) (omega arith) (omega arith))
    go (no n) = (b * 2 ^ 0, subnormal b (lt_of_not-le n))

pub record Positive (b : ℕ) : Type 0 where
  pub held : T (among binary64 (of_bits binary64 b))
  pub above : 0 < amount binary64 (of_bits binary64 b)

pub positive : (b m p : ℕ) → b < 0x7ff0_0000_0000_0000 → Normal b m p → Positive b
positive b m p B N =
    let v = has_value b B in
    record {
      held = among_of binary64 (of_bits binary64 b) v.0 (of_bits-fits binary64 b) v.1;
      above = first_pos (amount binary64 (of_bits binary64 b)) (2 ^ low binary64)
          (rw (← N.value) (mul-pos (lt_of_lt_of_le (zero-lt-suc 0) (le_trans (pow_pos 52) N.lead)) (pow_pos p)));
    }

pub positive_pattern : (b : ℕ) → 0 < b → b < 0x7ff0_0000_0000_0000 → Positive b
positive_pattern b P B = go (dec_le 1 (b / 0x10_0000_0000_0000))
  where
    some : (q : ℕ) → 1 ≤ q → q ≡ 0 → ⊥
    some q h e = omega arith

    go : Dec (1 ≤ b / 0x10_0000_0000_0000) → Positive b
    go (yes l) = positive b (b % 0x10_0000_0000_0000 + 0x10_0000_0000_0000) (b / 0x10_0000_0000_0000 + 1073) B (normal_digits b B (some (b / 0x10_0000_0000_0000) l))
    go (no n) =
        let t = b % 0x10_0000_0000_0000 in
        let l = count_leading_zeros 64 t in
        positive b (t * 2 ^ (l - 11) % 2 ^ 64) (1074 - (l - 11)) B (subnormal_digits b t l (lead_of b P (omega arith)))

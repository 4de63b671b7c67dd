-- Even seams begin at +0 and end at 1: 0 / n is +0 and n / n is 1, for any n above 0 that binary64 holds. Assumes nothing.
use mathlib.Core.Path.{◌≡◌, refl, sym, ap, ◌∙◌}
use mathlib.Core.Bool.{true, false}
use Prim.Native.Nat.{ℕ, zero, suc, ◌+◌, ◌-◌, ◌*◌, ◌^◌, ◌<◌, ◌≤◌}
use native.Mathlib.Nat.{mul-pos, mul-one, zero-mul, zero-add, add-zero, add-suc, suc-add, lt_trans}
use native.Mathlib.Omega.{arith}
use borrow.Author.Tests.{ne_eqb}
use lib.Dec.{T}
use lib.Pow.{pow-lt, shl_lt}
use lib.IntN.{ℤ, pos}
use lib.ListN.{length, get_or}
use lib.Ieee.{Float, nan, inf, fin, binary64, low, up, down, div, fits, of_int, of_bits}
use lib.Ieee.Fits.{up_pos, down_pos}
use lib.Ieee.Exact.{HasValue, round_exact}
use Rattle.base.specs.Buffers.{tabulate}
use Rattle.floats.specs.Scalar.{nought, one}
use Rattle.curves.specs.Seam.{part, uniform_parameters}
use Rattle.curves.specs.Stones.{Whole}
use Rattle.curves.proofs.coons.Laws.{length_even}
use Rattle.floats.proofs.scalar.Exact.{round_to, round_zero}
use Rattle.floats.proofs.scalar.Laws.{impossible}

-- ---- a whole number up to 1,024 is held as it is

few_bits : (n : ℕ) → n ≤ 1024 → n < 2 ^ 53
few_bits n h = omega arith

in_range : (n : ℕ) → n ≤ 1024 → n < 2 ^ 1024
in_range n h = lt_trans (few_bits n h) (pow-lt {i = 53} {j = 1024} (omega arith))

whole : (n : ℕ) → n ≤ 1024 → HasValue (of_int binary64 (pos n)) false n 1
unfolding of_int
whole n h =
    round_exact binary64 false n 1 n (low binary64) (omega arith) (few_bits n h) (shl_lt 1024 (low binary64) (in_range n h)) (sym (mul-one (n * 2 ^ low binary64)))

-- ---- its quotient by itself, and that of zero by it

one_fits : T (fits binary64 (fin false 1 (pos 0)))
unfolding fits
one_fits = tt

unit : (a : ℕ) → a * 1 ≡ 1 * 1 * a
unit a = omega arith

module _ (n : ℕ) (p : 0 < n) where
  above_zero : (m : ℕ) (e : ℤ) → m * up e * 1 ≡ n * down e → 0 < m
  above_zero zero e h = let q : 0 < n * down e = mul-pos p (down_pos e) in absurd (omega (arith, zero-mul (up e)))
  above_zero (suc m) e h = omega arith

  own_quotient : (x : Float) → HasValue x false n 1 → div binary64 x x ≡ one
  unfolding div of_bits
  own_quotient nan v = absurd v
  own_quotient (inf s) v = absurd v
  own_quotient (fin true m e) v = impossible (sym v.0)
  own_quotient (fin false m e) v =
      let q = above_zero m e v.1 in
      let a = m * up e * down e in
      let A : 0 < a = mul-pos (mul-pos q (up_pos e)) (down_pos e) in
      rw (ne_eqb m 0 (λ z. omega arith)) (round_to binary64 false a a 1 (pos 0) one_fits A (unit a))

  zero_quotient : (x : Float) → HasValue x false n 1 → div binary64 nought x ≡ nought
  unfolding div of_bits
  zero_quotient nan v = absurd v
  zero_quotient (inf s) v = absurd v
  zero_quotient (fin true m e) v = impossible (sym v.0)
  zero_quotient (fin false m e) v =
      let q = above_zero m e v.1 in
      rw (ne_eqb m 0 (λ z. omega arith)) (round_zero binary64 (0 * down e) (m * up e * 1) (mul-pos (mul-pos q (up_pos e)) (omega arith)) (zero-mul (down e)))

-- ---- the seam

get_d_tabulate : {A : Type 0} (f : ℕ → A) (k n i : ℕ) (z : A) → i < n → get_or (tabulate f k n) i z ≡ f (k + i)
get_d_tabulate f k zero i z h = absurd (omega arith)
get_d_tabulate f k (suc n) zero z h = ap f (sym (add-zero k))
get_d_tabulate f k (suc n) (suc i) z h = get_d_tabulate f (suc k) n i z (omega arith) ∙ ap f (suc-add k i ∙ sym (add-suc k i))

pub last_index : (n : ℕ) → length (uniform_parameters n) - 1 ≡ n
last_index n = let e = length_even n in omega arith

zero_held : of_int binary64 (pos 0) ≡ nought
unfolding of_int of_bits
zero_held = refl

module _ (n : ℕ) (p : 0 < n) (h : n ≤ 1024) where
  first_part : part 0 n ≡ nought
  first_part = ap (λ (x : Float). div binary64 x (of_int binary64 (pos n))) zero_held ∙ zero_quotient n p (of_int binary64 (pos n)) (whole n h)

  last_part : part n n ≡ one
  last_part = own_quotient n p (of_int binary64 (pos n)) (whole n h)

  value_at : (i : ℕ) → i < n + 1 → get_or (uniform_parameters n) i nan ≡ part i n
  unfolding uniform_parameters
  value_at i g = get_d_tabulate (λ (i : ℕ). part i n) 0 (n + 1) i nan g ∙ ap (λ (r : ℕ). part r n) (zero-add i)

  pub even_whole : Whole (uniform_parameters n)
  even_whole = record {
    begins = value_at 0 (omega arith) ∙ first_part;
    ends = ap (λ (r : ℕ). get_or (uniform_parameters n) r nan) (last_index n) ∙ value_at n (omega arith) ∙ last_part;
  }

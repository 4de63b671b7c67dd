-- The code's parts put together: the whole root that it computes is that of `apart` (`taken`), and the pattern that it puts together is that of `rounded` (`rounded_bits`).
-- Assumes nothing.
use mathlib.Core.Path.{◌≡◌, refl, sym, ap, ◌∙◌}
use mathlib.Core.Logic.{◌⊎◌, inl, inr}
use mathlib.Core.Bool.{false}
use Prim.Native.Nat.{ℕ, zero, suc, ◌+◌, ◌-◌, ◌*◌, ◌/◌, ◌%◌, ◌^◌, ◌≤◌, ◌<◌, min, compare}
use native.Mathlib.Decide.{dec_le}
use native.Mathlib.Nat.{add-zero, zero-mul, one-mul, le_antisymm, mul-le-mul_right, lt_of_not-le, lt_irrefl, lt_of_le_of_lt, mul_comm, mul_assoc, mul-one, pow-succ'}
use native.Mathlib.Omega.{arith}
use lib.Dec.{lit<, lit≤}
use lib.Arith.{digits_div, digits_mod}
use lib.Pow.{pow-add, pow-lt}
use lib.Ieee.{binary64, low, of_bits, nearest, units}
use lib.Ieee.Nearest.{closest}
use lib.Ieee.Bits.{of_bits-fits}
use lib.Ieee.Exact.{HasValue, units_val}
use Rattle.floats.specs.Root.{radicand, rounded, parted}
use Rattle.floats.specs.inner.RootSteps.{apart_of, Normal, Splits}
use Rattle.floats.proofs.root.Squares.{whole_of_splits}
use Rattle.floats.proofs.root.Amounts.{same_value}
use Rattle.floats.proofs.root.Rounding.{rounded_fits, round_scaled}
use Rattle.floats.proofs.root.TakenApart.{apart_is, digits_of_root, root_below}
use Rattle.floats.proofs.root.Patterns.{normal, positive}

-- ---- taken apart

-- what the code hands to `whole_root`
abbrev pub scaled : ℕ → ℕ → ℕ
scaled m p = m * (1 + p % 2)

one_or_two : (m p : ℕ) → ((scaled m p ≡ m) × (p % 2 ≡ 0)) ⊎ ((scaled m p ≡ 2 * m) × (p % 2 ≡ 1))
one_or_two m p = go (p % 2) refl
  where
    go : (r : ℕ) → p % 2 ≡ r → ((scaled m p ≡ m) × (p % 2 ≡ 0)) ⊎ ((scaled m p ≡ 2 * m) × (p % 2 ≡ 1))
    go zero e = inl (ap (λ (x : ℕ). m * (1 + x)) e ∙ mul-one m, e)
    go (suc zero) e = inr (ap (λ (x : ℕ). m * (1 + x)) e ∙ mul_comm m 2, e)
    go (suc (suc r)) e = absurd (omega arith)

-- an even power of two is taken off
even_power : (m p h : ℕ) → 54 ≤ p → h ≡ (p - 54) / 2 → scaled m p * 2 ^ 54 * 2 ^ (h + h) ≡ m * 2 ^ p
even_power m p h l e = go (one_or_two m p)
  where
    go : ((scaled m p ≡ m) × (p % 2 ≡ 0)) ⊎ ((scaled m p ≡ 2 * m) × (p % 2 ≡ 1)) → scaled m p * 2 ^ 54 * 2 ^ (h + h) ≡ m * 2 ^ p
    go (inl w) =
        mul_assoc (scaled m p) (2 ^ 54) (2 ^ (h + h))
        ∙ ap (λ (x : ℕ). x * (2 ^ 54 * 2 ^ (h + h))) w.0
        ∙ ap (λ (x : ℕ). m * x) (sym (pow-add 2 54 (h + h)) ∙ ap (λ (x : ℕ). 2 ^ x) (omega arith))
    go (inr w) =
        mul_assoc (scaled m p) (2 ^ 54) (2 ^ (h + h))
        ∙ ap (λ (x : ℕ). x * (2 ^ 54 * 2 ^ (h + h))) (w.0 ∙ mul_comm 2 m)
        ∙ mul_assoc m 2 (2 ^ 54 * 2 ^ (h + h))
        ∙ ap (λ (x : ℕ). m * x) (ap (λ (x : ℕ). 2 * x) (sym (pow-add 2 54 (h + h))) ∙ sym (pow-succ' 2 (54 + (h + h))) ∙ ap (λ (x : ℕ). 2 ^ x) (omega arith))

-- it is 2 ^ 52 at least, and below 2 ^ 54, even where it is 2 ^ 53 or more
pub scaled_range : (m p : ℕ) → 2 ^ 52 ≤ m → m < 2 ^ 53 → (2 ^ 52 ≤ scaled m p) × (scaled m p + 2 ≤ 2 ^ 54)
scaled_range m p lo hi = go (one_or_two m p)
  where
    go : ((scaled m p ≡ m) × (p % 2 ≡ 0)) ⊎ ((scaled m p ≡ 2 * m) × (p % 2 ≡ 1)) → (2 ^ 52 ≤ scaled m p) × (scaled m p + 2 ≤ 2 ^ 54)
    go (inl w) = omega arith
    go (inr w) = omega arith

-- the exact root of the float with the bits b, taken apart, with a whole part of just 54 digits
pub record Taken (b h s r : ℕ) : Type 0 where
  pub is : parted h s r ≡ apart_of b
  pub lead : 2 ^ 53 ≤ s
  pub full : s < 2 ^ 54
  pub reach : h ≤ 1532

pub taken : (b m p s r : ℕ) → b < 0x7ff0_0000_0000_0000 → Normal b m p → Splits (scaled m p * 2 ^ 54) s r → Taken b ((p - 54) / 2) s r
taken b m p s r B N w =
    let n = scaled m p in
    let h = (p - 54) / 2 in
    let range = scaled_range m p N.lead N.full in
    let i = whole_of_splits (n * 2 ^ 54) s r w in
    let P = positive b m p B N in
    let lo : 2 ^ 53 ≤ s = digits_of_root 53 (n * 2 ^ 54) s (omega arith) i in
    let hi : s < 2 ^ 54 = root_below 54 (n * 2 ^ 54) s (omega arith) i in
    let e : (s * s + r) * 2 ^ (h + h) ≡ radicand binary64 (of_bits binary64 b) =
    ap (λ (y : ℕ). y * 2 ^ (h + h)) w.sum ∙ even_power m p h (omega arith) refl ∙ N.value in
    record { is = apart_is binary64 (of_bits binary64 b) h s r P.held P.above e w.small lo hi; lead = lo; full = hi; reach = omega arith }

-- ---- the patterns of 53 digits, and of the number after the last of them

pattern : (x m : ℕ) → 2 ^ 52 ≤ m → m ≤ 2 ^ 53 → x < 2045 → HasValue (of_bits binary64 (x * 0x10_0000_0000_0000 + m)) false (m * 2 ^ x) (2 ^ low binary64)
pattern x m lo hi X = go (dec_le (2 ^ 53) m)
  where
    same : (x m : ℕ) → m ≡ 2 ^ 53 → 2 ^ 52 * 2 ^ (x + 1) ≡ m * 2 ^ x
    same x m e = ap (λ (y : ℕ). 2 ^ 52 * y) (pow-add 2 x 1 ∙ mul_comm (2 ^ x) 2) ∙ sym (mul_assoc (2 ^ 52) 2 (2 ^ x)) ∙ ap (λ (y : ℕ). y * 2 ^ x) (sym e)

    go : Dec (2 ^ 53 ≤ m) → HasValue (of_bits binary64 (x * 0x10_0000_0000_0000 + m)) false (m * 2 ^ x) (2 ^ low binary64)
    go (yes g) =
        let e : m ≡ 2 ^ 53 = le_antisymm hi g in
        rw (← (same x m e)) (normal (x * 0x10_0000_0000_0000 + m) (2 ^ 52) (x + 1) (omega arith) (lit≤ tt) (lit< tt) (omega arith))
    go (no g) = normal (x * 0x10_0000_0000_0000 + m) m x refl lo (lt_of_not-le g) (omega arith)

-- ---- what is kept of 54 digits: of s = 2 * q or 2 * q + 1, with half a unit more where there is a rest

closest_four : (a q r : ℕ) → r < 4 → a ≡ q * 4 + r → closest a 4 ≡ nearest q (compare (r * 2) 4)
closest_four a q r h e =
    ap (λ (x : ℕ). nearest (x / 4) (compare (x % 4 * 2) 4)) e ∙ ap (λ (x : ℕ). nearest x (compare ((q * 4 + r) % 4 * 2) 4)) (digits_div q h)
    ∙ ap (λ (x : ℕ). nearest q (compare (x * 2) 4)) (digits_mod q h)

-- s is even
kept_lower : (s r q : ℕ) → s ≡ 2 * q → closest (2 * s + min r 1) 4 ≡ q
kept_lower s zero q e = closest_four (2 * s + 0) q 0 (lit< tt) (omega arith)
kept_lower s (suc r) q e = closest_four (2 * s + min (suc r) 1) q 1 (lit< tt) (omega arith)

kept_tie : (s q : ℕ) → s ≡ 2 * q + 1 → closest (2 * s + min 0 1) 4 ≡ q + q % 2
kept_tie s q e = closest_four (2 * s + 0) q 2 (lit< tt) (omega arith)

kept_upper : (s r q : ℕ) → s ≡ 2 * q + 1 → closest (2 * s + min (suc r) 1) 4 ≡ suc q
kept_upper s r q e = closest_four (2 * s + min (suc r) 1) q 3 (lit< tt) (omega arith)

-- the three ways: what the code keeps, which is s / 2 or one more
pub record Keeps (s r d : ℕ) : Type 0 where
  pub least : s / 2 ≤ d
  pub most : d ≤ s / 2 + 1
  pub is : d ≡ closest (2 * s + min r 1) 4

even : (s : ℕ) → s % 2 ≡ 0 → s ≡ 2 * (s / 2)
even s e = omega arith

odd : (s : ℕ) → (s % 2 ≡ 0 → ⊥) → s ≡ 2 * (s / 2) + 1
odd s e = omega arith

pub keeps_even : (s r : ℕ) → s % 2 ≡ 0 → Keeps s r (s / 2)
keeps_even s r e = record { least = omega arith; most = omega arith; is = sym (kept_lower s r (s / 2) (even s e)) }

pub keeps_more : (s r : ℕ) → (s % 2 ≡ 0 → ⊥) → 0 < r → Keeps s r (s / 2 + 1)
keeps_more s zero e h = absurd (lt_irrefl 0 h)
keeps_more s (suc r) e h = record { least = omega arith; most = omega arith; is = (omega arith) ∙ sym (kept_upper s r (s / 2) (odd s e)) }

keeps_tie : (s r : ℕ) → (s % 2 ≡ 0 → ⊥) → r ≤ 0 → Keeps s r (s / 2 + s / 2 % 2)
keeps_tie s zero e h = record { least = omega arith; most = omega arith; is = sym (kept_tie s (s / 2) (odd s e)) }
keeps_tie s (suc r) e h = absurd (omega arith)

-- as the code has it: u is what is added if the last digit is 1
by_digit : (s r u : ℕ) → ((s % 2 ≡ 0 → ⊥) → Keeps s r (s / 2 + u)) → Keeps s r (s / 2 + s % 2 * u)
by_digit s r u k = go (s % 2) refl
  where
    go : (t : ℕ) → s % 2 ≡ t → Keeps s r (s / 2 + s % 2 * u)
    go zero e = rw (e, zero-mul, add-zero) (keeps_even s r e)
    go (suc zero) e = rw (e, one-mul) (k (λ f. omega arith))
    go (suc (suc t)) e = absurd (omega arith)

pub keeps_rest : (s r : ℕ) → 0 < r → Keeps s r (s / 2 + s % 2 * 1)
keeps_rest s r h = by_digit s r 1 (λ o. keeps_more s r o h)

pub keeps_no_rest : (s r : ℕ) → r ≤ 0 → Keeps s r (s / 2 + s % 2 * (s / 2 % 2))
keeps_no_rest s r h = by_digit s r (s / 2 % 2) (λ o. keeps_tie s r o h)

-- ---- the pattern is the rounded root's

pub rounded_bits : (h s r d : ℕ) → 2 ^ 53 ≤ s → s < 2 ^ 54 → h ≤ 2000 → Keeps s r d
    → of_bits binary64 ((h + 1) * 0x10_0000_0000_0000 + d) ≡ rounded binary64 (parted h s r)
unfolding rounded
rounded_bits h s r d lo hi H K =
    let e = K.is in
    let A = 2 * s + min r 1 in
    let x = h + 1 in
    let p : HasValue (of_bits binary64 (x * 0x10_0000_0000_0000 + d)) false (d * 2 ^ x) (2 ^ low binary64) = pattern x d (omega arith) (omega arith) (omega arith) in
    let is : rounded binary64 (parted h s r) ≡ units binary64 false (closest A 4) (1 + h) = round_scaled binary64 A 0 h (omega arith) (omega arith) in
    let top : d ≤ 2 ^ 53 = omega arith in
    let room : 53 + (1 + h) < 1074 + 1024 = omega arith in
    let fine : d * 2 ^ (1 + h) < 2 ^ (1074 + 1024) = lt_of_le_of_lt (mul-le-mul_right (2 ^ (1 + h)) top) (rw (← (pow-add 2 53 (1 + h))) (pow-lt room)) in
    let v : HasValue (units binary64 false d (1 + h)) false (d * 2 ^ (1 + h)) (2 ^ low binary64) = units_val binary64 false d (1 + h) fine in
    let turned : h + 1 ≡ 1 + h = omega arith in
    let w : HasValue (rounded binary64 (parted h s r)) false (d * 2 ^ x) (2 ^ low binary64) = rw (is, ← e, turned) v in
    same_value binary64 (of_bits binary64 (x * 0x10_0000_0000_0000 + d)) (rounded binary64 (parted h s r)) false (d * 2 ^ x)
    (of_bits-fits binary64 (x * 0x10_0000_0000_0000 + d)) (rounded_fits binary64 (parted h s r)) p w

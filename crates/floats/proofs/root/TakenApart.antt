-- Taking the exact root apart: `apart` does it rightly (`taken_apart`), and there is only one way with a whole part of just one digit more than the format keeps (`apart_is`). So the code's
-- proof need not know what a root is: whatever it computes, if the parts add up and the digits are right, they are those of `apart`. Assumes nothing.
use mathlib.Core.Path.{◌≡◌, refl, sym, ap, ◌∙◌}
use Prim.Native.Nat.{ℕ, suc, ◌+◌, ◌-◌, ◌*◌, ◌/◌, ◌^◌, ◌≤◌, ◌<◌}
use native.Mathlib.Nat.{le_antisymm, le-add_left, le_of_suc-le-suc, le_trans, le_of_eq, lt_of_not-le, lt_of_lt_of_le, lt_of_le_of_lt}
use native.Mathlib.Nat.{eq_of_mul-eq-mul_right, mul_assoc, one-mul, mul-le-mul_left, mul-le-mul_right, mul-div_cancel, le-div_iff_mul-le}
use native.Mathlib.Nat.{div-lt_iff_lt-mul}
use native.Mathlib.Omega.{arith}
use lib.Dec.{T, lit≤}
use lib.Pow.{pow-add, pow_pos, pow_mono, shl_lt}
use lib.Ieee.{Float, Format, binary32, binary64, prec, low, size}
use lib.Ieee.Digits.{size-lt, size_reaches, size-le, back}
use lib.Ieee.Positive.{first_pos}
use Rattle.floats.specs.Root.{amount, radicand, among, whole_root, Parts, parted, apart}
use Rattle.floats.specs.inner.RootSteps.{Whole, Splits}
use Rattle.floats.proofs.root.Squares.{whole_root_is, whole_reaches, whole_unique, whole_of_splits, splits_of_whole, less_of_squares, square_mono}
use Rattle.floats.proofs.root.Numbers.{size_over}
use Rattle.floats.proofs.root.Amounts.{digits_of, amount_digits, radicand_digits}

-- ---- an even number of zeros is taken off a number n = m * 2 ^ j, where m has at most p digits and j is 2 * p at least: what is left has 2 * p + 1 digits or one more

record Shortened (p n h : ℕ) : Type 0 where
  exact : n / 2 ^ (h + h) * 2 ^ (h + h) ≡ n
  least : 2 ^ (p + p) ≤ n / 2 ^ (h + h)
  below : n / 2 ^ (h + h) < 2 ^ (suc p + suc p)

shortened : (p n m j h : ℕ) → m < 2 ^ p → 0 < m → m * 2 ^ j ≡ n → 2 * p ≤ j → h ≡ (size n - (2 * p + 1)) / 2 → Shortened p n h
shortened p n m j h few some e far eh =
    let longer : j < size n = size_over j n (le_trans (le_of_eq (sym (one-mul (2 ^ j)))) (le_trans (mul-le-mul_right (2 ^ j) some) (le_of_eq e))) in
    let shorter : size n ≤ p + j = size-le n (p + j) (rw (← e) (shl_lt p j few)) in
    let zeros : h + h ≤ j = omega arith in
    let inside : p + p + (h + h) < size n = omega arith in
    let reach : size n ≤ suc p + suc p + (h + h) = omega arith in
    let c : m * 2 ^ (j - (h + h)) * 2 ^ (h + h) ≡ n = mul_assoc m (2 ^ (j - (h + h))) (2 ^ (h + h))
    ∙ ap (λ (x : ℕ). m * x) (sym (pow-add 2 (j - (h + h)) (h + h)) ∙ ap (λ (x : ℕ). 2 ^ x) (back j (h + h) zeros)) ∙ e in
    record {
      exact = ap (λ (x : ℕ). x / 2 ^ (h + h) * 2 ^ (h + h)) (sym c) ∙ ap (λ (x : ℕ). x * 2 ^ (h + h)) (mul-div_cancel (m * 2 ^ (j - (h + h))) (pow_pos (h + h))) ∙ c;
      least = (le-div_iff_mul-le (pow_pos (h + h))).1 (le_trans (le_of_eq (sym (pow-add 2 (p + p) (h + h)))) (size_reaches n (p + p + (h + h)) inside));
      below = (div-lt_iff_lt-mul (pow_pos (h + h))).1 (lt_of_lt_of_le (size-lt n) (le_trans (pow_mono reach) (le_of_eq (pow-add 2 (suc p + suc p) (h + h)))));
    }

-- both formats reach so low that no root is subnormal
roomy : (f : Format) → 2 * prec f ≤ low f
roomy binary32 = lit≤ tt
roomy binary64 = lit≤ tt

radicand_shortened : (f : Format) (x : Float) → T (among f x) → 0 < amount f x → Shortened (prec f) (radicand f x) ((size (radicand f x) - (2 * prec f + 1)) / 2)
radicand_shortened f x X P =
    let d = digits_of f x X in
    let some : 0 < d.digits = first_pos d.digits (2 ^ d.power) (rw (← (amount_digits f x d)) P) in
    shortened (prec f) (radicand f x) d.digits (d.power + low f) ((size (radicand f x) - (2 * prec f + 1)) / 2) d.few some
    (radicand_digits f x d) (le_trans (roomy f) (le-add_left (low f) d.power)) refl

-- ---- its whole root has p + 1 digits

pub digits_of_root : (p a s : ℕ) → 2 ^ (p + p) ≤ a → Whole a s → 2 ^ p ≤ s
digits_of_root p a s l w = whole_reaches a s (2 ^ p) w.not_passed (le_trans (le_of_eq (sym (pow-add 2 p p))) l)

pub root_below : (p a s : ℕ) → a < 2 ^ (p + p) → Whole a s → s < 2 ^ p
root_below p a s l w = less_of_squares s (2 ^ p) (lt_of_le_of_lt w.reached (lt_of_lt_of_le l (le_of_eq (pow-add 2 p p))))

pub taken_apart : (f : Format) (x : Float) → T (among f x) → 0 < amount f x → Parts f (radicand f x) (apart f x) × ((apart f x).whole < 2 ^ suc (prec f))
unfolding apart
taken_apart f x X P =
    let p = prec f in
    let n = radicand f x in
    let h = (size n - (2 * p + 1)) / 2 in
    let c = radicand_shortened f x X P in
    let a = n / 2 ^ (h + h) in
    let s = whole_root (suc p) a in
    let w : Whole a s = whole_root_is (suc p) a c.below in
    let r = splits_of_whole a s w in
    (record { value = ap (λ (y : ℕ). y * 2 ^ (h + h)) r.sum ∙ c.exact; whole_part = r.small; digits = digits_of_root p a s c.least w }, root_below (suc p) a s c.below w)

-- ---- there is only one way. Two numbers from 2 ^ (2 p) up and below four times that are the same but for a power of four only if that is 1, and a number has one whole root.

no_less : (h k a b L : ℕ) → L ≤ b → a < 4 * L → a * 2 ^ (h + h) ≡ b * 2 ^ (k + k) → k ≤ h
no_less h k a b L lo hi e = le_of_suc-le-suc (lt_of_not-le against)
  where
    against : suc h ≤ k → ⊥
    against l =
        let d = k - suc h in
        let parts : k + k ≡ 2 + (d + d) + (h + h) = omega arith in
        let p = rw (parts, pow-add 2 (2 + (d + d)) (h + h), pow-add 2 2 (d + d)) at e in
        let q : a ≡ b * (4 * 2 ^ (d + d)) = eq_of_mul-eq-mul_right (2 ^ (h + h)) (pow_pos (h + h)) a (b * (4 * 2 ^ (d + d))) (omega (arith, p)) in
        omega (arith, mul-le-mul_left b (pow_pos (d + d)))

-- what a root of p + 1 digits is the root of
range : (p n s r : ℕ) → Splits n s r → 2 ^ p ≤ s → s < 2 ^ suc p → (2 ^ (p + p) ≤ n) × (n < 4 * 2 ^ (p + p))
range p n s r w lo hi =
    let i = whole_of_splits n s r w in
    let next : s + 1 ≤ 2 ^ suc p = omega arith in
    let sums : suc p + suc p ≡ 2 + (p + p) = omega arith in (
      le_trans (le_of_eq (pow-add 2 p p)) (le_trans (square_mono (2 ^ p) s lo) i.reached),
      lt_of_lt_of_le i.not_passed (le_trans (square_mono (s + 1) (2 ^ suc p) next)
          (le_of_eq (sym (pow-add 2 (suc p) (suc p)) ∙ ap (λ (y : ℕ). 2 ^ y) sums ∙ pow-add 2 2 (p + p)))),
    )

one_way : (p h s r k t u : ℕ) → (s * s + r) * 2 ^ (h + h) ≡ (t * t + u) * 2 ^ (k + k) → r ≤ 2 * s → u ≤ 2 * t
    → 2 ^ p ≤ s → 2 ^ p ≤ t → s < 2 ^ suc p → t < 2 ^ suc p → (h ≡ k) × (s ≡ t) × (r ≡ u)
one_way p h s r k t u e R U ls lt hs ht =
    let a = s * s + r in
    let b = t * t + u in
    let sa : Splits a s r = record { sum = refl; small = R } in
    let sb : Splits b t u = record { sum = refl; small = U } in
    let ra = range p a s r sa ls hs in
    let rb = range p b t u sb lt ht in
    let hk : h ≡ k = le_antisymm (no_less k h b a (2 ^ (p + p)) ra.0 rb.1 (sym e)) (no_less h k a b (2 ^ (p + p)) rb.0 ra.1 e) in
    let ab : a ≡ b = eq_of_mul-eq-mul_right (2 ^ (k + k)) (pow_pos (k + k)) a b (ap (λ (y : ℕ). a * 2 ^ (y + y)) (sym hk) ∙ e) in
    let st : s ≡ t = whole_unique a s t (whole_of_splits a s r sa) (rw ab (whole_of_splits b t u sb)) in
    (hk, st, (omega (arith, ap (λ (x : ℕ). x * x) st)))

pub apart_is : (f : Format) (x : Float) (h s r : ℕ) → T (among f x) → 0 < amount f x → (s * s + r) * 2 ^ (h + h) ≡ radicand f x → r ≤ 2 * s
    → 2 ^ prec f ≤ s → s < 2 ^ suc (prec f) → parted h s r ≡ apart f x
apart_is f x h s r X P e R lo hi =
    let a = apart f x in
    let t = taken_apart f x X P in
    let w = one_way (prec f) h s r a.exponent a.whole a.rest (e ∙ sym t.0.value) R t.0.whole_part lo t.0.digits hi t.1 in
    ap (λ (y : ℕ). parted y s r) w.0 ∙ ap (λ (y : ℕ). parted a.exponent y r) w.1 ∙ ap (λ (y : ℕ). parted a.exponent a.whole y) w.2

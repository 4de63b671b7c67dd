-- Facts about whole numbers for the rounding of a root: the nearest whole number is at most a half away (`half_away`), an odd number's square is no number of few digits times a power
-- of two (`no_tie`), and a number of few digits that is large is a multiple of a power of two (`multiple`). Nothing here is about floats. Assumes nothing.
use mathlib.Core.Path.{◌≡◌, sym, ap, ◌∙◌}
use mathlib.Core.Bool.{not}
use Prim.Native.Nat.{ℕ, suc, ◌+◌, ◌-◌, ◌*◌, ◌/◌, ◌%◌, ◌^◌, ◌≤◌, ◌<◌, compare, Ordering}
use native.Mathlib.Nat.{le_trans, le_of_eq, le_antisymm, le_of_suc-le-suc, lt_of_lt_of_le, lt_of_le_of_lt, lt_of_not-le, lt_irrefl, mul_comm}
use native.Mathlib.Nat.{mul_assoc, mul-one, one-mul, add-mul, mul-le-mul_left, mul-le-mul_right}
use native.Mathlib.Nat.{mul-lt-mul_of_pos_right, eq_of_mul-eq-mul_right, div-add-mod', mod-lt, pow-succ', mul-mod_left}
use native.Mathlib.Omega.{arith}
use native.Mathlib.Decide.{dec_le}
use lib.Dec.{T, is_le, compare_is_eq, leb→le, nleb→lt, eqb→eq, eqb_refl}
use lib.Arith.{lt_of_le-ne}
use lib.Pow.{pow-add, pow_pos, pow_mono, pow-lt}
use lib.Ieee.{size, nearest}
use lib.Ieee.Digits.{size-lt, size-le, back}
use lib.Ieee.Nearest.{closest}

-- ---- products and powers

pub next_multiple : (a b w : ℕ) → a < b → a * w + w ≤ b * w
next_multiple a b w h =
    let l : a + 1 ≤ b = omega arith in
    le_trans (le_of_eq (sym (add-mul a 1 w ∙ ap (λ (x : ℕ). a * w + x) (one-mul w)))) (mul-le-mul_right w l)

pub exponents_lt : (i p : ℕ) → 2 ^ i < 2 ^ p → i < p
exponents_lt i p h = lt_of_not-le (λ (g : p ≤ i). lt_irrefl (2 ^ i) (lt_of_lt_of_le h (pow_mono g)))

pub exponents_le : (a l : ℕ) → 2 ^ a ≤ 2 ^ l → a ≤ l
exponents_le a l h = le_of_suc-le-suc (lt_of_not-le (λ (g : suc l ≤ a). lt_irrefl (2 ^ l) (lt_of_lt_of_le (pow-lt g) h)))

pub size_over : (a n : ℕ) → 2 ^ a ≤ n → a < size n
size_over a n lo = exponents_lt a (size n) (lt_of_le_of_lt lo (size-lt n))

pub size_exact : (a n : ℕ) → 2 ^ a ≤ n → n < 2 ^ suc a → size n ≡ suc a
size_exact a n lo hi = le_antisymm (size-le n (suc a) hi) (size_over a n lo)

-- ---- a / b to the nearest whole number is at most a half away

abbrev Ordered : Ordering → ℕ → ℕ → Type 0
Ordered Ordering.lt a b = a < b
Ordered Ordering.eq a b = a ≡ b
Ordered Ordering.gt a b = b < a

compared : (a b : ℕ) → Ordered (compare a b) a b
compared a b = go (compare a b) (leb→le a b) (nleb→lt a b) (eqb→eq a b) (λ (e : a ≡ b). rw (← e) (eqb_refl a))
  where
    go : (o : Ordering) → (T (is_le o) → a ≤ b) → (T (not (is_le o)) → b < a) → (T (compare_is_eq o) → a ≡ b) → (a ≡ b → T (compare_is_eq o))
        → Ordered o a b
    go Ordering.lt h k e n = lt_of_le-ne (h tt) n
    go Ordering.eq h k e n = e tt
    go Ordering.gt h k e n = k tt

halves : (q r a b : ℕ) → q * b + r ≡ a → r < b → (o : Ordering) → Ordered o (r * 2) b
    → (2 * (nearest q o * b) ≤ 2 * a + b) × (2 * a ≤ 2 * (nearest q o * b) + b)
halves q r a b e h Ordering.lt c = omega arith
halves q r a b e h Ordering.eq c =
    let l : q % 2 ≤ 1 = omega arith in
    let t : q % 2 * b ≤ 1 * b = mul-le-mul_right b l in
    omega arith
halves q r a b e h Ordering.gt c = omega arith

pub half_away : (a b : ℕ) → 0 < b → (2 * (closest a b * b) ≤ 2 * a + b) × (2 * a ≤ 2 * (closest a b * b) + b)
half_away a b B = halves (a / b) (a % b) a b (div-add-mod' a b) (mod-lt a B) (compare (a % b * 2) b) (compared (a % b * 2) b)

-- ---- No tie. Let c be odd and m below c * c. If c * c * 2 ^ a were m * 2 ^ b, then with a from b up, m would be a multiple of c * c, and is too small for one;
-- with a below b, c * c would be even, and an odd number's square is odd.
odd_square : (c : ℕ) → c % 2 ≡ 1 → c * c % 2 ≡ 1
odd_square c o =
    ap (λ (x : ℕ). x % 2) (ap (λ (x : ℕ). x * x) (sym (omega arith)) ∙ expand (c / 2))
    ∙ omega arith
  where
    expand : (h : ℕ) → (2 * h + 1) * (2 * h + 1) ≡ 2 * (h * (2 * h + 1) + h) + 1
    expand h = omega arith

even_multiple : (m i : ℕ) → m * 2 ^ suc i % 2 ≡ 0
even_multiple m i = ap (λ (x : ℕ). x % 2) (ap (λ (x : ℕ). m * x) (pow-succ' 2 i ∙ mul_comm 2 (2 ^ i)) ∙ sym (mul_assoc m (2 ^ i) 2)) ∙ mul-mod_left (m * 2 ^ i) 2

pub no_tie : (c m a b : ℕ) → c % 2 ≡ 1 → m < c * c → c * c * 2 ^ a ≡ m * 2 ^ b → ⊥
no_tie c m a b o l e = either (dec_le b a)
  where
    differ : (x : ℕ) → x % 2 ≡ 1 → x % 2 ≡ 0 → ⊥
    differ x p q = omega arith

    either : Dec (b ≤ a) → ⊥
    either (yes h) =
        let w : c * c * 2 ^ (a - b) ≡ m =
        eq_of_mul-eq-mul_right (2 ^ b) (pow_pos b) (c * c * 2 ^ (a - b)) m
        (mul_assoc (c * c) (2 ^ (a - b)) (2 ^ b) ∙ ap (λ (x : ℕ). c * c * x) (sym (pow-add 2 (a - b) b) ∙ ap (λ (x : ℕ). 2 ^ x) (back a b h)) ∙ e) in
        let u : c * c * 1 ≤ c * c * 2 ^ (a - b) = mul-le-mul_left (c * c) (pow_pos (a - b)) in
        lt_irrefl m (lt_of_lt_of_le l (le_trans (le_of_eq (sym (mul-one (c * c)))) (le_trans u (le_of_eq w))))
    either (no n) =
        let i = b - suc a in
        let w : c * c ≡ m * 2 ^ suc i =
        eq_of_mul-eq-mul_right (2 ^ a) (pow_pos a) (c * c) (m * 2 ^ suc i)
        (e ∙ ap (λ (x : ℕ). m * x) (ap (λ (x : ℕ). 2 ^ x) (sym (omega arith)) ∙ pow-add 2 (suc i) a) ∙ sym (mul_assoc m (2 ^ suc i) (2 ^ a))) in
        differ (c * c) (odd_square c o) (ap (λ (x : ℕ). x % 2) w ∙ even_multiple m i)

-- ---- m * 2 ^ j, with m below 2 * h, is a multiple of 2 ^ k if it is h * 2 ^ k at least
pub multiple : (h m j k : ℕ) → m < 2 * h → h * 2 ^ k ≤ m * 2 ^ j → (t : ℕ) × (m * 2 ^ j ≡ t * 2 ^ k)
multiple h m j k l g = either (dec_le k j)
  where
    either : Dec (k ≤ j) → (t : ℕ) × (m * 2 ^ j ≡ t * 2 ^ k)
    either (yes le) = let e : 2 ^ (j - k) * 2 ^ k ≡ 2 ^ j = rw (← pow-add, back j k le) in (m * 2 ^ (j - k), rw (← e) (omega arith))
    either (no n) =
        let a : m * 2 ^ j < 2 * h * 2 ^ j = mul-lt-mul_of_pos_right l (pow_pos j) in
        let b : 2 * h * 2 ^ j ≡ h * 2 ^ suc j = ap (λ (x : ℕ). x * 2 ^ j) (mul_comm 2 h) ∙ mul_assoc h 2 (2 ^ j) ∙ ap (λ (x : ℕ). h * x) (sym (pow-succ' 2 j)) in
        let c : h * 2 ^ suc j ≤ h * 2 ^ k = mul-le-mul_left h (pow_mono (omega arith)) in
        absurd (lt_irrefl (m * 2 ^ j) (lt_of_lt_of_le a (le_trans (le_of_eq b) (le_trans c g))))

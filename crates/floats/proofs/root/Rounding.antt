-- The rounding of a root, once for any root taken apart and so for every exponent: `rounded` gives the value of the format that is nearest to the exact root (`rounding`), within half a
-- unit of its last place (`half_unit`), and there is no other (`only`). Assumes nothing.
--
-- The idea. A root taken apart has a whole part s with one or more digits too many, and a rest that says whether the exact root lies at s or strictly between s and s + 1. `round` drops
-- the digits that are too many and keeps the nearest q (`Kept`, `kept_of`), looking at s and, where there is a rest, half a unit more. Between s and s + 1 lies neither a kept value nor a
-- middle of two, so the exact root is on the same side of every middle as what was rounded, or at it: it is at most half a unit from q (`Around`, `around_of`). At the middle it never is:
-- the middle is an odd number c = 2 q + 1 or 2 q - 1 of half units, so c * c times a power of two would be four times the radicand, which is a number m of at most as many digits as the
-- format keeps, times a power of two; but c has more digits, and so m is below c * c (`no_tie`, `untied`, `clear`). A value y of the format other than q either lies a whole unit away,
-- being a multiple of the unit from 2 ^ (prec - 1) units up (`multiple`), or below 2 ^ (prec - 1) units, where the exact root does not come (`under_it`, `over_it`).
use mathlib.Core.Path.{◌≡◌, refl, sym, ap, ◌∙◌, subst}
use mathlib.Core.Logic.{◌⊎◌, inl, inr}
use mathlib.Core.Bool.{false}
use Prim.Native.Nat.{ℕ, zero, suc, ◌+◌, ◌-◌, ◌*◌, ◌/◌, ◌%◌, ◌^◌, ◌≤◌, ◌<◌, min}
use native.Mathlib.Nat.{le_trans, le_of_eq, le_of_lt, le_antisymm, le-add_right, lt_of_lt_of_le, lt_of_le_of_lt, lt_of_not-le, lt_irrefl, zero-lt-suc}
use native.Mathlib.Nat.{mul_assoc, mul_left_comm, add-mul, mul-pos, mul-le-mul_left, mul-le-mul_right}
use native.Mathlib.Nat.{lt_of_mul-lt-mul_right, mul-lt-mul_of_pos_right, pow-succ', le-div_iff_mul-le, div-lt_iff_lt-mul, eq-or-lt_of_le}
use native.Mathlib.Omega.{arith}
use native.Mathlib.Decide.{dec_le}
use lib.Dec.{T}
use lib.Arith.{lt_of_le-ne}
use lib.Pow.{pow-add, pow_pos, pow_mono}
use lib.Ieee.{Float, Format, prec, emax, low, size, units, round, fits}
use lib.Ieee.Digits.{size-lt, size_reaches}
use lib.Ieee.Fits.{two, reach, round_is, round-fits}
use lib.Ieee.Exact.{HasValue, units_val}
use lib.Ieee.Nearest.{closest, closest_same, div_same}
use Rattle.floats.specs.Root.{amount, radicand, among, Nearest, HalfUnit, Apart, Parts, rounded}
use Rattle.floats.proofs.root.Squares.{square_mul, square_mono, square_less, less_of_squares, at_most}
use Rattle.floats.proofs.root.Numbers.{half_away, next_multiple, no_tie, multiple, size_exact, size_over}
use Rattle.floats.proofs.root.Amounts.{amount_of, amount_digits, radicand_digits, digits_of, among_of, fits_of, own_amount, same_value, amount_lt}

-- ---- how many digits of the whole root are dropped: c + 1

record Dropped (p s : ℕ) : Type 0 where
  c : ℕ
  reaches : 2 ^ (p + c) ≤ s
  under : s < 2 ^ (p + suc c)

dropped : (p s : ℕ) → 2 ^ p ≤ s → Dropped p s
dropped p s h =
    let z = size s in
    let l : p < z = size_over p s h in
    record { c = z - suc p; reaches = size_reaches s (p + (z - suc p)) (omega arith); under = subst (λ (x : ℕ). s < 2 ^ x) (sym (omega arith)) (size-lt s) }

-- ---- `round` of a / 2 * 2 ^ h smallest values, where a / 2 has prec + c + 1 digits before the point: a multiple of 2 ^ (c + 1 + h) of them

abbrev kept : ℕ → ℕ → ℕ
kept a c = closest a (2 * 2 ^ suc c)

pub round_scaled : (f : Format) (a c h : ℕ) → 2 * 2 ^ (prec f + c) ≤ a → a < 2 * 2 ^ (prec f + suc c)
    → round f false (a * 2 ^ h) (2 * 2 ^ low f) ≡ units f false (kept a c) (suc c + h)
round_scaled f a c h lo hi =
    let p = prec f in
    let l = 2 ^ low f in
    let n = a * 2 ^ h * l in
    let d = 2 * l in
    let D : 0 < d = mul-pos (zero-lt-suc 1) (pow_pos (low f)) in
    let e : n * 2 ≡ a * 2 ^ h * d = omega arith in
    let q : n / d ≡ a * 2 ^ h / 2 = div_same n d (a * 2 ^ h) 2 D (zero-lt-suc 1) e in
    let lo' : 2 ^ (p + c + h) * 2 ≤ a * 2 ^ h = omega (arith, pow-add 2 (p + c) h, mul-le-mul_right (2 ^ h) lo) in
    let top : suc (p + c + h) ≡ p + suc c + h = omega arith in
    let hi' : a * 2 ^ h < 2 ^ suc (p + c + h) * 2 = rw (top, pow-add 2 (p + suc c) h) (omega (arith, mul-lt-mul_of_pos_right hi (pow_pos h))) in
    let z : size (n / d) ≡ suc (p + c + h) =
    ap size q ∙ size_exact (p + c + h) (a * 2 ^ h / 2) ((le-div_iff_mul-le {k = 2} (zero-lt-suc 1)).1 lo') ((div-lt_iff_lt-mul {k = 2} (zero-lt-suc 1)).1 hi') in
    let k : size (n / d) - p ≡ suc c + h = rw z (omega arith) in
    round_is f false (a * 2 ^ h) d
    ∙ ap (λ (x : ℕ). units f false (closest n (d * 2 ^ x)) x) k
    ∙ ap (λ (x : ℕ). units f false x (suc c + h))
    (closest_same n (d * 2 ^ (suc c + h)) a (2 * 2 ^ suc c) (mul-pos D (pow_pos (suc c + h))) (mul-pos (zero-lt-suc 1) (pow_pos (suc c)))
    (cross a (2 ^ h) l (2 ^ suc c) (2 ^ (suc c + h)) (pow-add 2 (suc c) h)))
  where
    cross : (a e l w v : ℕ) → v ≡ w * e → a * e * l * (2 * w) ≡ a * (2 * l * v)
    cross a e l w v q = rw q (omega arith)

-- ---- the numbers. The whole root is s, what stands for the rest b, and s has c + 1 digits more than p. D is 2 ^ c, E is 2 ^ h, g is 2 ^ (p - 1), and q is what is kept.

record Kept (g D s b q : ℕ) : Type 0 where
  not_above : 2 * (q * D) ≤ s + D
  not_below : s + b ≤ 2 * (q * D) + D
  least : 2 * (g * D) ≤ s
  at_least : g ≤ q
  no_more : q ≤ 2 * g

kept_of : (g D s b q : ℕ) → 0 < D → b ≤ 1 → 2 * (g * D) ≤ s → s < 4 * (g * D)
    → 2 * (q * (4 * D)) ≤ 2 * (2 * s + b) + 4 * D → 2 * (2 * s + b) ≤ 2 * (q * (4 * D)) + 4 * D → Kept g D s b q
kept_of g D s b q P B lo hi x y =
    let u : 2 * (q * D) ≤ s + D = omega arith in
    let v : s + b ≤ 2 * (q * D) + D = omega arith in
    let m : g * D < (q + 1) * D = omega arith in
    let n : q * D < (2 * g + 1) * D = omega arith in
    record { not_above = u; not_below = v; least = lo; at_least = at_most g q (lt_of_mul-lt-mul_right D m); no_more = at_most q (2 * g) (lt_of_mul-lt-mul_right D n) }

-- W is the unit in the last place, in which the rounded root is q * W, and N is the square of the exact root. The exact root is at most half a unit away.
record Around (g q W N : ℕ) : Type 0 where
  lower : (2 * q - 1) * W * ((2 * q - 1) * W) ≤ 4 * N
  upper : 4 * N ≤ (2 * q + 1) * W * ((2 * q + 1) * W)
  first : g * W * (g * W) ≤ N
  at_least : g ≤ q
  no_more : q ≤ 2 * g

-- s * s + r is at most the square of s, or of s + 1 where there is a rest
with_rest : (s r : ℕ) → r ≤ 2 * s → s * s + r ≤ (s + min r 1) * (s + min r 1)
with_rest s zero h = omega arith
with_rest s (suc r) h = rw (one r) (omega arith)
  where
    one : (r : ℕ) → min (suc r) 1 ≡ 1
    one r = omega arith

around_of : (g D E s r q N : ℕ) → 0 < g → Kept g D s (min r 1) q → r ≤ 2 * s → (s * s + r) * (E * E) ≡ N → Around g q (2 * (D * E)) N
around_of g D E s r q N G k R e =
    let b = min r 1 in
    let W = 2 * (D * E) in
    let S = s * E in
    let qW : q * W ≡ 2 * (q * D) * E = regroup q D E in
    let gW : g * W ≡ 2 * (g * D) * E = regroup g D E in
    let above : q * W ≤ S + D * E = le_trans (le_of_eq qW) (le_trans (mul-le-mul_right E k.not_above) (le_of_eq (add-mul s D E))) in
    let below : (s + b) * E ≤ q * W + D * E = le_trans (mul-le-mul_right E k.not_below) (le_of_eq (add-mul (2 * (q * D)) D E ∙ ap (λ (x : ℕ). x + D * E) (sym qW))) in
    let least : g * W ≤ S = le_trans (le_of_eq gW) (mul-le-mul_right E k.least) in
    let sq : S * S ≤ N = le_trans (le_of_eq (square_mul s E)) (le_trans (mul-le-mul_right (E * E) (le-add_right (s * s) r)) (le_of_eq e)) in
    let sq' : N ≤ (s + b) * E * ((s + b) * E) = le_trans (le_of_eq (sym e)) (le_trans (mul-le-mul_right (E * E) (with_rest s r R)) (le_of_eq (sym (square_mul (s + b) E)))) in
    let m1 : (2 * q - 1) * W ≤ 2 * S = one_less q W S (D * E) (lt_of_lt_of_le G k.at_least) refl above in
    let m2 : 2 * ((s + b) * E) ≤ (2 * q + 1) * W = omega arith in
    record {
      lower = le_trans (square_mono ((2 * q - 1) * W) (2 * S) m1) (le_trans (le_of_eq (square_mul 2 S)) (mul-le-mul_left 4 sq));
      upper = le_trans (mul-le-mul_left 4 sq') (le_trans (le_of_eq (sym (square_mul 2 ((s + b) * E)))) (square_mono (2 * ((s + b) * E)) ((2 * q + 1) * W) m2));
      first = le_trans (square_mono (g * W) S least) sq;
      at_least = k.at_least;
      no_more = k.no_more;
    }
  where
    regroup : (q d e : ℕ) → q * (2 * (d * e)) ≡ 2 * (q * d) * e
    regroup q d e = simp (mul_assoc, mul_left_comm) refl

    one_less : (q W S u : ℕ) → 0 < q → W ≡ 2 * u → q * W ≤ S + u → (2 * q - 1) * W ≤ 2 * S
    one_less (suc q) W S u G e h =
        let a : (2 * suc q - 1) * W ≡ (2 * q + 1) * W = ap (λ (x : ℕ). x * W) (omega arith) in
        omega arith
    one_less zero W S u G e h = absurd (lt_irrefl 0 G)

-- ---- a tie is impossible: four times a number of few digits and a power of two is not the square of an odd number of more digits and a power of two

wide : (g m c : ℕ) → 2 ≤ g → m < 2 * g → 2 * g ≤ c + 1 → m < c * c
wide g m c G l h =
    let three : 3 * c ≤ c * c = mul-le-mul_right c (omega arith) in
    omega arith

-- the exact root is less than half a unit away
record Clear (q W N : ℕ) : Type 0 where
  lower : (2 * q - 1) * W * ((2 * q - 1) * W) < 4 * N
  upper : 4 * N < (2 * q + 1) * W * ((2 * q + 1) * W)

-- N is m * 2 ^ j
untied : (g c m j k N : ℕ) → 2 ≤ g → m < 2 * g → 2 * g ≤ c + 1 → c % 2 ≡ 1 → m * 2 ^ j ≡ N → c * 2 ^ k * (c * 2 ^ k) ≡ 4 * N → ⊥
untied g c m j k N G l h o e t =
    no_tie c m (k + k) (2 + j) o (wide g m c G l h)
    (rw (pow-add 2 k k, pow-add 2 2 j) (omega arith))

clear : (g q m j k N : ℕ) → 2 ≤ g → m < 2 * g → m * 2 ^ j ≡ N → Around g q (2 ^ k) N → Clear q (2 ^ k) N
clear g q m j k N G l e a =
    record {
      lower = lt_of_le-ne a.lower (λ t. untied g (2 * q - 1) m j k N G l (omega arith) (omega arith) e t);
      upper = lt_of_le-ne a.upper (λ t. untied g (2 * q + 1) m j k N G l (omega arith) (omega arith) e (sym t));
    }

-- ---- every other value of the format is further away. Y is its amount, m * 2 ^ j.

under_it : (g q k N Y m j : ℕ) → 2 ≤ g → Around g q (2 ^ k) N → Clear q (2 ^ k) N → m < 2 * g → Y ≡ m * 2 ^ j → Y < q * 2 ^ k
    → (Y + q * 2 ^ k) * (Y + q * 2 ^ k) < 4 * N
under_it g q k N Y m j G a c l e h = large (dec_le (g * W) Y)
  where
    W : ℕ
    W = 2 ^ k

    one_less : (q W : ℕ) → 0 < q → (2 * q - 1) * W + W ≡ 2 * (q * W)
    one_less q W h =
        let a : (2 * q - 1 + 1) * W ≡ (2 * q - 1) * W + 1 * W = add-mul (2 * q - 1) 1 W in
        let b : (2 * q - 1 + 1) * W ≡ 2 * (q * W) = ap (λ (x : ℕ). x * W) (omega arith) ∙ mul_assoc 2 q W in
        omega arith

    -- a whole unit below
    unit_below : Y + 2 ^ k ≤ q * 2 ^ k → (Y + q * 2 ^ k) * (Y + q * 2 ^ k) < 4 * N
    unit_below d =
        lt_of_le_of_lt (square_mono (Y + q * 2 ^ k) ((2 * q - 1) * 2 ^ k) (omega (arith, one_less q (2 ^ k) (omega arith)))) c.lower

    small : (g ≡ q) ⊎ (g < q) → Y < g * 2 ^ k → (Y + q * 2 ^ k) * (Y + q * 2 ^ k) < 4 * N
    small (inl e) y =
        let f : q * 2 ^ k * (q * 2 ^ k) ≤ N = rw (← e) a.first in
        lt_of_lt_of_le (square_less (Y + q * 2 ^ k) (2 * (q * 2 ^ k)) (omega arith)) (le_trans (le_of_eq (square_mul 2 (q * 2 ^ k))) (mul-le-mul_left 4 f))
    small (inr s) y = unit_below (omega (arith, next_multiple g q (2 ^ k) s))

    large : Dec (g * W ≤ Y) → (Y + q * 2 ^ k) * (Y + q * 2 ^ k) < 4 * N
    large (yes y) =
        let t = multiple g m j k l (rw (← e) y) in
        let s : Y ≡ t.0 * 2 ^ k = e ∙ t.1 in
        unit_below (rw s (next_multiple t.0 q (2 ^ k) (lt_of_mul-lt-mul_right (2 ^ k) (rw s at h))))
    large (no y) = small (eq-or-lt_of_le a.at_least) (lt_of_not-le y)

over_it : (g q k N Y m j : ℕ) → 2 ≤ g → Around g q (2 ^ k) N → Clear q (2 ^ k) N → m < 2 * g → Y ≡ m * 2 ^ j → q * 2 ^ k < Y
    → 4 * N < (q * 2 ^ k + Y) * (q * 2 ^ k + Y)
over_it g q k N Y m j G a c l e h =
    let big : g * 2 ^ k ≤ Y = le_trans (mul-le-mul_right (2 ^ k) a.at_least) (le_of_lt h) in
    let t = multiple g m j k l (rw (← e) big) in
    let s : Y ≡ t.0 * 2 ^ k = e ∙ t.1 in
    let n : q * 2 ^ k + 2 ^ k ≤ t.0 * 2 ^ k = next_multiple q t.0 (2 ^ k) (lt_of_mul-lt-mul_right (2 ^ k) (rw (← s) h)) in
    lt_of_lt_of_le c.upper (square_mono ((2 * q + 1) * 2 ^ k) (q * 2 ^ k + Y) (omega arith))

-- ---- the theorems

twice_half : (p : ℕ) → 2 ≤ p → 2 ^ p ≡ 2 * 2 ^ (p - 1)
twice_half p h = ap (λ (x : ℕ). 2 ^ x) (omega arith) ∙ pow-succ' 2 (p - 1)

two_at_least : (p : ℕ) → 2 ≤ p → 2 ≤ 2 ^ (p - 1)
two_at_least p h = pow_mono (one p h)
  where
    one : (p : ℕ) → 2 ≤ p → 1 ≤ p - 1
    one p h = omega arith

-- the exact root of a value of the format is well below the largest value
fine : (f : Format) (s r h n : ℕ) → n < 2 ^ (suc (emax f) + low f) → (s * s + r) * 2 ^ (h + h) ≡ n * 2 ^ low f → s * 2 ^ h < 2 ^ (low f + emax f)
fine f s r h n l e =
    less_of_squares (s * 2 ^ h) (2 ^ (low f + emax f))
    (lt_of_le_of_lt (le_trans (le_of_eq (square_mul s (2 ^ h)))
    (le_trans (mul-le-mul_right (2 ^ h * 2 ^ h) (le-add_right (s * s) r)) (le_of_eq (ap (λ (x : ℕ). (s * s + r) * x) (sym (pow-add 2 h h)) ∙ e))))
    (lt_of_lt_of_le (mul-lt-mul_of_pos_right l (pow_pos (low f)))
    (le_trans (le_of_eq (sym (pow-add 2 (suc (emax f) + low f) (low f))))
    (le_trans (pow_mono (room (prec f) (emax f) (low f) (two f) (reach f))) (le_of_eq (pow-add 2 (low f + emax f) (low f + emax f)))))))
  where
    room : (p e l : ℕ) → 2 ≤ p → p ≤ suc e → suc e + l + l ≤ l + e + (l + e)
    room p e l a b = omega arith

-- what is kept, of a root taken apart
record Result (f : Format) (n : ℕ) (v : Float) : Type 0 where
  q : ℕ
  k : ℕ
  around : Around (2 ^ (prec f - 1)) q (2 ^ k) n
  value : HasValue v false (q * 2 ^ k) (2 ^ low f)

result : (f : Format) (x : Float) (a : Apart) → T (among f x) → Parts f (radicand f x) a → Result f (radicand f x) (rounded f a)
unfolding rounded
result f x a X P =
    let p = prec f in
    let g = 2 ^ (p - 1) in
    let s = a.whole in
    let r = a.rest in
    let h = a.exponent in
    let b = min r 1 in
    let E = 2 ^ h in
    let N = radicand f x in
    let G : 2 ≤ g = two_at_least p (two f) in
    let d = dropped p s P.digits in
    let c = d.c in
    let D = 2 ^ c in
    let P1 : 2 ^ (p + c) ≡ 2 * (g * D) = pow-add 2 p c ∙ ap (λ (y : ℕ). y * D) (twice_half p (two f)) ∙ mul_assoc 2 g D in
    let P2 : 2 ^ (p + suc c) ≡ 4 * (g * D) = ap (λ (y : ℕ). 2 ^ y) (omega arith) ∙ pow-succ' 2 (p + c) ∙ ap (λ (y : ℕ). 2 * y) P1 ∙ sym (mul_assoc 2 2 (g * D)) in
    let lo : 2 * (g * D) ≤ s = rw (← P1) d.reaches in
    let hi : s < 4 * (g * D) = rw (← P2) d.under in
    let B : b ≤ 1 = omega arith in
    let A = 2 * s + b in
    let q = kept A c in
    let k = suc c + h in
    let D4 : 2 * 2 ^ suc c ≡ 4 * D = ap (λ (y : ℕ). 2 * y) (pow-succ' 2 c) ∙ sym (mul_assoc 2 2 D) in
    let away = half_away A (2 * 2 ^ suc c) (mul-pos (zero-lt-suc 1) (pow_pos (suc c))) in
    let K : Kept g D s b q =
    kept_of g D s b q (pow_pos c) B lo hi (rw (← D4) away.0) (rw (← D4) away.1) in
    let W : 2 * (D * E) ≡ 2 ^ k = sym (pow-add 2 (suc c) h ∙ ap (λ (y : ℕ). y * E) (pow-succ' 2 c) ∙ mul_assoc 2 D E) in
    let ar : Around g q (2 * (D * E)) N = around_of g D E s r q N (omega arith) K P.whole_part (ap (λ (y : ℕ). (s * s + r) * y) (sym (pow-add 2 h h)) ∙ P.value) in
    let is : rounded f a ≡ units f false q k =
    round_scaled f A c h (rw P1 (omega arith)) (rw P2 (omega arith)) in
    let small : s * E < 2 ^ (low f + emax f) = fine f s r h (amount f x) (amount_lt f x X) P.value in
    let qD : q * D ≤ s = omega (arith, mul-le-mul_right D G) in
    let over : q * 2 ^ k < 2 ^ (low f + suc (emax f)) =
    lt_of_le_of_lt (le_of_eq (ap (λ (y : ℕ). q * y) (sym W) ∙ mul_left_comm q 2 (D * E) ∙ ap (λ (y : ℕ). 2 * y) (sym (mul_assoc q D E))))
    (lt_of_le_of_lt (mul-le-mul_left 2 (mul-le-mul_right E qD))
    (subst (λ (y : ℕ). 2 * (s * E) < y) (sym (ap (λ (y : ℕ). 2 ^ y) (omega arith) ∙ pow-succ' 2 (low f + emax f)))
    (omega arith))) in
    record { q = q; k = k; around = rw (← W) ar; value = rw is (units_val f false q k over) }

pub rounded_fits : (f : Format) (a : Apart) → T (fits f (rounded f a))
unfolding rounded
rounded_fits f a = round-fits f false ((2 * a.whole + min a.rest 1) * 2 ^ a.exponent) (2 * 2 ^ low f)

-- x has few digits, so there is no tie
cleared : (f : Format) (x v : Float) → T (among f x) → (R : Result f (radicand f x) v) → Clear R.q (2 ^ R.k) (radicand f x)
cleared f x v X R =
    let d = digits_of f x X in
    clear (2 ^ (prec f - 1)) R.q d.digits (d.power + low f) R.k (radicand f x) (two_at_least (prec f) (two f))
    (rw (← (twice_half (prec f) (two f))) d.few) (radicand_digits f x d) R.around

half_unit_of : (f : Format) (x v : Float) → T (among f x) → Result f (radicand f x) v → HalfUnit f x v
half_unit_of f x v X R =
    let c = cleared f x v X R in
    record {
      q = R.q;
      k = R.k;
      value = amount_of f v false (R.q * 2 ^ R.k) R.value;
      lead = R.around.at_least;
      full = le_trans R.around.no_more (le_of_eq (sym (twice_half (prec f) (two f))));
      above = c.lower;
      below = c.upper;
    }

nearest_of : (f : Format) (x v : Float) → T (among f x) → T (fits f v) → Result f (radicand f x) v → Nearest f x v
nearest_of f x v X F R =
    let g = 2 ^ (prec f - 1) in
    let q = R.q in
    let k = R.k in
    let G : 2 ≤ g = two_at_least (prec f) (two f) in
    let P : 2 ^ prec f ≡ 2 * g = twice_half (prec f) (two f) in
    let N = radicand f x in
    let c = cleared f x v X R in
    let z : amount f v ≡ q * 2 ^ k = amount_of f v false (q * 2 ^ k) R.value in
    record {
      held = among_of f v (q * 2 ^ k) F R.value;
      over_lower = λ y Y l.
          let t = digits_of f y Y in
          rw z (under_it g q k N (amount f y) t.digits t.power G R.around c (rw P at t.few) (amount_digits f y t) (rw z at l));
      under_higher = λ y Y l.
          let t = digits_of f y Y in
          rw z (over_it g q k N (amount f y) t.digits t.power G R.around c (rw P at t.few) (amount_digits f y t) (rw z at l));
    }

-- Whatever the exponent, and however the root was taken apart, one rounding gives the nearest value.
pub rounding : (f : Format) (x : Float) (a : Apart) → T (among f x) → Parts f (radicand f x) a → Nearest f x (rounded f a)
rounding f x a X P = nearest_of f x (rounded f a) X (rounded_fits f a) (result f x a X P)

-- The exact root lies within half a unit of its last place.
pub half_unit : (f : Format) (x : Float) (a : Apart) → T (among f x) → Parts f (radicand f x) a → HalfUnit f x (rounded f a)
half_unit f x a X P = half_unit_of f x (rounded f a) X (result f x a X P)

-- There is no other.
pub only : (f : Format) (x r t : Float) → Nearest f x r → Nearest f x t → r ≡ t
only f x r t a b = go (dec_le (amount f r) (amount f t)) (dec_le (amount f t) (amount f r))
  where
    same : amount f r ≡ amount f t → r ≡ t
    same e = same_value f r t false (amount f r) (fits_of f r a.held) (fits_of f t b.held) (own_amount f r a.held)
        (rw e (own_amount f t b.held))

    against : (m n k : ℕ) → m * m < k → k < n * n → m ≡ n → ⊥
    against m n k p q e = lt_irrefl (n * n) (rw e at (lt_of_lt_of_le p (le_of_lt q)))

    go : Dec (amount f r ≤ amount f t) → Dec (amount f t ≤ amount f r) → r ≡ t
    go (yes p) (yes q) = same (le_antisymm p q)
    go (no p) q =
        let l : amount f t < amount f r = omega arith in
        absurd (against (amount f t + amount f r) (amount f t + amount f r) (4 * radicand f x) (a.over_lower t b.held l) (b.under_higher r a.held l) refl)
    go (yes p) (no q) =
        let l : amount f r < amount f t = omega arith in
        absurd (against (amount f r + amount f t) (amount f r + amount f t) (4 * radicand f x) (b.over_lower r a.held l) (a.under_higher t b.held l) refl)

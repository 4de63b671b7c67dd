-- A sum and a difference of two finite values of a format, rounded, lie at most half a unit in their last place from the exact ones. Assumes nothing.
--
-- The idea. Every value of a format is a whole number of its smallest values, with a sign, and so is every exact sum. `round` takes such a number n to
-- the nearest multiple q * 2 ^ k of 2 ^ k, where k is how many digits n has too many, so that half of 2 ^ k is all that is lost (`rounds`); and what
-- comes out has at least as many digits as n, so that 2 ^ k is at most the unit in its last place.
use mathlib.Core.Path.{◌≡◌, refl, sym, ap, ◌∙◌}
use mathlib.Core.Bool.{Bool, true, false, cond}
use Prim.Native.Nat.{ℕ, suc, ◌+◌, ◌-◌, ◌*◌, ◌^◌, ◌≤◌, ◌<◌}
use native.Mathlib.Nat.{le_trans, le_of_eq, le_of_lt, mul-pos, mul_assoc, mul_right_comm, add-mul, mul-le-mul_right, lt_of_mul-lt-mul_right, le_of_mul-le-mul_right, mul-div_cancel}
use native.Mathlib.Omega.{arith}
use borrow.Author.Tests.{ltb-true, ltb-false}
use lib.Dec.{T, ltb, ltb→lt}
use lib.IntN.{ℤ}
use lib.Pow.{pow_pos, pow-add, pow_mono}
use lib.Ieee.{Float, nan, inf, fin, Format, prec, low, emax, up, down, size, odd, units, round, sum, add, sub, neg, fits}
use lib.Ieee.Digits.{size_reaches}
use lib.Ieee.Fits.{down_pos, round_is, add-fits, neg-fits, two}
use lib.Ieee.Exact.{HasValue, units_val}
use lib.Ieee.Nearest.{closest, closest_same}
use lib.Ieee.Scale.{round_same, finite}
use Rattle.floats.specs.Root.{amount, among}
use Rattle.floats.specs.Scalar.{is_finite}
use Rattle.floats.proofs.scalar.Finite.{difference_first}
use Rattle.floats.proofs.root.Numbers.{half_away, size_over}
use Rattle.floats.proofs.root.Amounts.{amount_of, own_amount}

-- how many smallest values the unit in a value's last place is
abbrev pub unit : Format → Float → ℕ
unit f x = 2 ^ (size (amount f x) - prec f)

-- By how many smallest values a finite value is above zero, and below it. It is the one less the other; put on different sides of a comparison, the two
-- keep sums and differences of signed values within the natural numbers.
abbrev pub above : Format → Float → ℕ
above f nan = 0
above f (inf s) = 0
above f (fin s m e) = cond s 0 (amount f (fin s m e))

abbrev pub under : Format → Float → ℕ
under f nan = 0
under f (inf s) = 0
under f (fin s m e) = cond s (amount f (fin s m e)) 0

-- x + y and z differ by at most d half smallest values
pub record SumWithin (f : Format) (x y z : Float) (d : ℕ) : Type 0 where
  pub not_above : 2 * (above f z + under f x + under f y) ≤ 2 * (under f z + above f x + above f y) + d
  pub not_below : 2 * (under f z + above f x + above f y) ≤ 2 * (above f z + under f x + under f y) + d

-- ---- one rounding

-- z is a number of smallest values with the sign s, and at most half a unit from n of them
record Rounds (f : Format) (s : Bool) (n : ℕ) (z : Float) : Type 0 where
  r : ℕ
  value : HasValue z s r (2 ^ low f)
  not_above : 2 * r ≤ 2 * n + unit f z
  not_below : 2 * n ≤ 2 * r + unit f z

units_below : (f : Format) (s : Bool) (q k : ℕ) → T (finite (units f s q k)) → q * 2 ^ k < 2 ^ (low f + suc (emax f))
unfolding units
units_below f s q k = go (ltb (q * 2 ^ k) (2 ^ (low f + suc (emax f)))) (ltb→lt (q * 2 ^ k) (2 ^ (low f + suc (emax f))))
  where
    go : (b : Bool) → (T b → q * 2 ^ k < 2 ^ (low f + suc (emax f))) → T (finite (cond b (odd (suc (prec f)) s q k (low f)) (inf s)))
        → q * 2 ^ k < 2 ^ (low f + suc (emax f))
    go true h t = h tt
    go false h t = absurd t

-- `round` of n smallest values
round_units : (f : Format) (s : Bool) (n : ℕ) → round f s n (2 ^ low f) ≡ units f s (closest n (2 ^ (size n - prec f))) (size n - prec f)
round_units f s n =
    let l = 2 ^ low f in
    let L : 0 < l = pow_pos (low f) in
    let k = size n - prec f in
    round_is f s n l
    ∙ ap (λ (z : ℕ). units f s (closest (n * l) (l * 2 ^ (size z - prec f))) (size z - prec f)) (mul-div_cancel n L)
    ∙ ap (λ (z : ℕ). units f s z k) (closest_same (n * l) (l * 2 ^ k) n (2 ^ k) (mul-pos L (pow_pos k)) (pow_pos k) (mul_assoc n l (2 ^ k)))

-- n has p + 1 digits and k too many: so has the nearest multiple of 2 ^ k, or more
digits_stay : (p n q k : ℕ) → 2 ^ (p + k) ≤ n → 2 * n ≤ 2 * (q * 2 ^ k) + 2 ^ k → 2 ^ (p + k) ≤ q * 2 ^ k
digits_stay p n q k h g =
    let w = 2 ^ k in
    let W : 0 < w = pow_pos k in
    let split : 2 ^ (p + k) ≡ 2 ^ p * w = pow-add 2 p k in
    let less : 2 ^ p * w < (q + 1) * w = omega arith in
    let few : 2 ^ p < q + 1 = lt_of_mul-lt-mul_right w less in
    le_trans (le_of_eq split) (mul-le-mul_right w (omega arith))

-- so 2 ^ k is at most the unit in its last place
unit_covers : (p n q k : ℕ) → 0 < p → k ≡ size n - p → 2 * n ≤ 2 * (q * 2 ^ k) + 2 ^ k → 2 ^ k ≤ 2 ^ (size (q * 2 ^ k) - p)
unit_covers p n q k P e g = pow_mono (go (ltb p (size n)) (ltb-true p (size n)) (ltb-false p (size n)))
  where
    go : (b : Bool) → (b ≡ true → p < size n) → (b ≡ false → size n ≤ p) → k ≤ size (q * 2 ^ k) - p
    go true over within =
        let long = over refl in
        let top : 2 ^ (p - 1 + k) ≤ n = size_reaches n (p - 1 + k) (omega arith) in
        let stays = size_over (p - 1 + k) (q * 2 ^ k) (digits_stay (p - 1) n q k top g) in
        omega arith
    go false over within = let short = within refl in omega arith

rounds : (f : Format) (s : Bool) (n : ℕ) → T (finite (round f s n (2 ^ low f))) → Rounds f s n (round f s n (2 ^ low f))
rounds f s n t =
    let k = size n - prec f in
    let q = closest n (2 ^ k) in
    let near = half_away n (2 ^ k) (pow_pos k) in
    let in-units = round_units f s n in
    let value = units_val f s q k (units_below f s q k (rw (← in-units) t)) in
    let its_unit : unit f (units f s q k) ≡ 2 ^ (size (q * 2 ^ k) - prec f) = ap (λ (z : ℕ). 2 ^ (size z - prec f)) (amount_of f (units f s q k) s (q * 2 ^ k) value) in
    let covers = unit_covers (prec f) n q k (omega (arith, two f)) refl near.1 in
    rw in-units (record { r = q * 2 ^ k; value = value; not_above = omega arith; not_below = omega arith })

-- any fraction that is n smallest values
rounds_to : (f : Format) (s : Bool) (a c n : ℕ) → 0 < c → a * 2 ^ low f ≡ n * c → T (finite (round f s a c)) → Rounds f s n (round f s a c)
rounds_to f s a c n C h t =
    let same = round_same f s a c n (2 ^ low f) C (pow_pos (low f)) h in
    rw same (rounds f s n (rw (← same) t))

-- ---- its sign

record Over (f : Format) (n : ℕ) (z : Float) : Type 0 where
  none : under f z ≡ 0
  not_above : 2 * above f z ≤ 2 * n + unit f z
  not_below : 2 * n ≤ 2 * above f z + unit f z

record Beneath (f : Format) (n : ℕ) (z : Float) : Type 0 where
  none : above f z ≡ 0
  not_above : 2 * under f z ≤ 2 * n + unit f z
  not_below : 2 * n ≤ 2 * under f z + unit f z

signed : (f : Format) (s : Bool) (r : ℕ) (z : Float) → HasValue z s r (2 ^ low f) → (above f z ≡ cond s 0 r) × (under f z ≡ cond s r 0)
signed f s r nan v = absurd v
signed f s r (inf t) v = absurd v
signed f s r (fin t m e) v = (rw (amount_of f (fin t m e) s r v, v.0), rw (amount_of f (fin t m e) s r v, v.0))

over : {f : Format} {n : ℕ} {z : Float} → Rounds f false n z → Over f n z
over {f = f} {z = z} h =
    let g = signed f false h.r z h.value in
    record { none = g.1; not_above = omega arith; not_below = omega arith }

beneath : {f : Format} {n : ℕ} {z : Float} → Rounds f true n z → Beneath f n z
beneath {f = f} {z = z} h =
    let g = signed f true h.r z h.value in
    record { none = g.0; not_above = omega arith; not_below = omega arith }

-- ---- a sum

-- two numbers of smallest values, as fractions of c: their difference too
differ : (a b A B l c : ℕ) → 0 < c → a * l ≡ A * c → b * l ≡ B * c → a ≤ b → (A ≤ B) × ((b - a) * l ≡ (B - A) * c)
differ a b A B l c C p q h =
    let L : A * c ≤ B * c = le_trans (le_of_eq (sym p)) (le_trans (mul-le-mul_right l h) (le_of_eq q)) in
    let le : A ≤ B = le_of_mul-le-mul_right L C in
    let x : a * l + (b - a) * l ≡ b * l = sym (add-mul a (b - a) l) ∙ ap (λ (z : ℕ). z * l) (omega arith) in
    let y : A * c + (B - A) * c ≡ B * c = sym (add-mul A (B - A) c) ∙ ap (λ (z : ℕ). z * c) (omega arith) in
    (le, omega arith)

-- a / c with the sign s is A smallest values, b / c with the sign t is B of them, and z is their sum, rounded
record Near (f : Format) (s : Bool) (A : ℕ) (t : Bool) (B : ℕ) (z : Float) : Type 0 where
  not_above : 2 * (above f z + cond s A 0 + cond t B 0) ≤ 2 * (under f z + cond s 0 A + cond t 0 B) + unit f z
  not_below : 2 * (under f z + cond s 0 A + cond t 0 B) ≤ 2 * (above f z + cond s A 0 + cond t B 0) + unit f z

module _ (f : Format) (a b c A B : ℕ) (C : 0 < c) (p : a * 2 ^ low f ≡ A * c) (q : b * 2 ^ low f ≡ B * c) where
  both : (a + b) * 2 ^ low f ≡ (A + B) * c
  both = omega arith

  sum_near : (s t : Bool) → T (finite (sum f s a t b c)) → Near f s A t B (sum f s a t b c)
  unfolding sum
  sum_near false false h = let g = over (rounds_to f false (a + b) c (A + B) C both h) in record { not_above = omega arith; not_below = omega arith }
  sum_near true true h = let g = beneath (rounds_to f true (a + b) c (A + B) C both h) in record { not_above = omega arith; not_below = omega arith }
  sum_near false true h = go (ltb a b) (ltb-true a b) (ltb-false a b) h
    where
      go : (w : Bool) → (w ≡ true → a < b) → (w ≡ false → b ≤ a) → T (finite (cond w (round f true (b - a) c) (round f false (a - b) c)))
          → Near f false A true B (cond w (round f true (b - a) c) (round f false (a - b) c))
      go true less more h =
          let d = differ a b A B (2 ^ low f) c C p q (le_of_lt (less refl)) in
          let g = beneath (rounds_to f true (b - a) c (B - A) C d.1 h) in
          record { not_above = omega arith; not_below = omega arith }
      go false less more h =
          let d = differ b a B A (2 ^ low f) c C q p (more refl) in
          let g = over (rounds_to f false (a - b) c (A - B) C d.1 h) in
          record { not_above = omega arith; not_below = omega arith }
  sum_near true false h = go (ltb a b) (ltb-true a b) (ltb-false a b) (ltb b a) (ltb-false b a) h
    where
      go : (w : Bool) → (w ≡ true → a < b) → (w ≡ false → b ≤ a) → (v : Bool) → (v ≡ false → a ≤ b)
          → T (finite (cond w (round f false (b - a) c) (round f v (a - b) c))) → Near f true A false B (cond w (round f false (b - a) c) (round f v (a - b) c))
      go true less more v same h =
          let d = differ a b A B (2 ^ low f) c C p q (le_of_lt (less refl)) in
          let g = over (rounds_to f false (b - a) c (B - A) C d.1 h) in
          record { not_above = omega arith; not_below = omega arith }
      go false less more true same h =
          let d = differ b a B A (2 ^ low f) c C q p (more refl) in
          let g = beneath (rounds_to f true (a - b) c (A - B) C d.1 h) in
          record { not_above = omega arith; not_below = omega arith }
      go false less more false same h =
          let d = differ b a B A (2 ^ low f) c C q p (more refl) in
          let e = differ a b A B (2 ^ low f) c C p q (same refl) in
          let g = over (rounds_to f false (a - b) c (A - B) C d.1 h) in
          record { not_above = omega arith; not_below = omega arith }

-- ---- of two values

own : (f : Format) (s : Bool) (m : ℕ) (e : ℤ) → T (fits f (fin s m e)) → m * up e * 2 ^ low f ≡ amount f (fin s m e) * down e
unfolding among amount neg
own f false m e h = (own_amount f (fin false m e) h).1
own f true m e h = (own_amount f (fin false m e) (neg-fits f (fin true m e) h)).1

pub add_within : (f : Format) (x y : Float) → T (fits f x) → T (fits f y) → T (finite (add f x y)) → SumWithin f x y (add f x y) (unit f (add f x y))
unfolding add
add_within f nan y p q h = absurd h
add_within f (inf s) nan p q h = absurd h
add_within f (inf false) (inf false) p q h = absurd h
add_within f (inf false) (inf true) p q h = absurd h
add_within f (inf true) (inf false) p q h = absurd h
add_within f (inf true) (inf true) p q h = absurd h
add_within f (inf s) (fin t n d) p q h = absurd h
add_within f (fin s m e) nan p q h = absurd h
add_within f (fin s m e) (inf t) p q h = absurd h
add_within f (fin s m e) (fin t n d) p q h =
    let l = 2 ^ low f in
    let A = amount f (fin s m e) in
    let B = amount f (fin t n d) in
    let first : m * up e * down d * l ≡ A * (down e * down d) =
    mul_right_comm (m * up e) (down d) l ∙ ap (λ (z : ℕ). z * down d) (own f s m e p) ∙ mul_assoc A (down e) (down d) in
    let second : n * up d * down e * l ≡ B * (down e * down d) =
    mul_right_comm (n * up d) (down e) l ∙ ap (λ (z : ℕ). z * down e) (own f t n d q) ∙ mul_right_comm B (down d) (down e) ∙ mul_assoc B (down e) (down d) in
    let near =
    sum_near f (m * up e * down d) (n * up d * down e) (down e * down d) A B (mul-pos (down_pos e) (down_pos d)) first second s t h in
    record { not_above = near.not_above; not_below = near.not_below }

-- ---- and another one taken off

-- x + y - w and r differ by at most d half smallest values
pub record CombinedWithin (f : Format) (x y w r : Float) (d : ℕ) : Type 0 where
  pub not_above : 2 * (above f r + under f x + under f y + above f w) ≤ 2 * (under f r + above f x + above f y + under f w) + d
  pub not_below : 2 * (under f r + above f x + above f y + under f w) ≤ 2 * (above f r + under f x + under f y + above f w) + d

-- x and r differ by as much
pub record Within (f : Format) (x r : Float) (d : ℕ) : Type 0 where
  pub not_above : 2 * (above f r + under f x) ≤ 2 * (under f r + above f x) + d
  pub not_below : 2 * (under f r + above f x) ≤ 2 * (above f r + under f x) + d

neg_above : (f : Format) (x : Float) → above f (neg x) ≡ under f x
unfolding neg amount
neg_above f nan = refl
neg_above f (inf s) = refl
neg_above f (fin false m e) = refl
neg_above f (fin true m e) = refl

neg_under : (f : Format) (x : Float) → under f (neg x) ≡ above f x
unfolding neg amount
neg_under f nan = refl
neg_under f (inf s) = refl
neg_under f (fin false m e) = refl
neg_under f (fin true m e) = refl

sub_is : (f : Format) (x y : Float) → sub f x y ≡ add f x (neg y)
unfolding sub
sub_is f x y = refl

finite_is : (x : Float) → is_finite x ≡ finite x
unfolding is_finite
finite_is nan = refl
finite_is (inf s) = refl
finite_is (fin s m e) = refl

-- an infinity stays one
finite_before : (f : Format) (x y : Float) → T (finite (sub f x y)) → T (finite x)
finite_before f x y h = rw finite_is at (difference_first f x y (rw finite_is h))

pub sub_within : (f : Format) (x y w : Float) → T (fits f x) → T (fits f y) → T (fits f w) → T (finite (sub f (add f x y) w))
    → CombinedWithin f x y w (sub f (add f x y) w) (unit f (add f x y) + unit f (sub f (add f x y) w))
sub_within f x y w p q g h =
    let s = add f x y in
    let e = sub_is f s w in
    let first = add_within f x y p q (finite_before f s w h) in
    let second = add_within f s (neg w) (add-fits f x y) (neg-fits f w g) (rw e at h) in
    rw e (through first second (neg_above f w) (neg_under f w))
  where
    through : {s v r : Float} {d e : ℕ} → SumWithin f x y s d → SumWithin f s v r e → above f v ≡ under f w → under f v ≡ above f w
        → CombinedWithin f x y w r (d + e)
    through a b i j = record { not_above = omega arith; not_below = omega arith }

-- one that was added is taken off again

pub second_off : {f : Format} {x w r : Float} {d : ℕ} → CombinedWithin f x w w r d → Within f x r d
second_off h = record { not_above = omega arith; not_below = omega arith }

pub first_off : {f : Format} {x w r : Float} {d : ℕ} → CombinedWithin f w x w r d → Within f x r d
first_off h = record { not_above = omega arith; not_below = omega arith }

-- What a loop is answered by what its tests say, the room that its pieces have in the list, and the pieces as they are lent. Assumes nothing.
use mathlib.Core.Path.{◌≡◌, refl, sym, ap, ◌∙◌}
use mathlib.Core.Bool.{Bool, true, false, not, ◌&&◌, ◌||◌, cond}
use mathlib.Core.List.{List, [], ◌∷◌, ◌++◌}
use Prim.Native.Nat.{ℕ, zero, suc, ◌+◌, ◌-◌, ◌*◌, ◌/◌, ◌%◌, ◌<◌, ◌≤◌}
use native.Mathlib.Omega.{arith}
use lib.ListN.{length, get_or, take, drop}
use lib.Seq.{drop-cons, drop-drop, take-add}
use lib.Dec.{leb, ltb, eqb}
use lib.Ieee.{Float, nan, eq}
use borrow.Author.Tests.{lt-ltb, le-ltb, le-leb, lt-leb, eq-eqb, ne_eqb, eqb-true, leb-true}
use Rattle.base.specs.Refusal.{refused, is_passed, refuse_if}
use Rattle.base.specs.Tests.{if_passed}
use Rattle.base.specs.Answers.{Answer, good, turned_away}
use Rattle.curves.specs.Curve.{point_count}
use Rattle.mesh.specs.declared.boundary.Pieces.{Pieces}
use Rattle.mesh.specs.declared.boundary.Pieces.TheVariants.{Corners, Quarters}
use Rattle.mesh.specs.inner.Curves.{PiecesIn}
use Rattle.mesh.specs.Loop.{closes, points_used, size_test, in_fours, from_loop, piece, max_loop}

-- ---- 12

module _ (used : ℕ) where
  fours_by : (a b c : Bool) → eqb used 4 ≡ a → leb 8 used ≡ b → eqb (used % 4) 0 ≡ c
      → cond a (good Corners) (cond (b && c) (good (Quarters (used / 4))) (turned_away (refused 12 0 0))) ≡ in_fours used
  unfolding in_fours
  fours_by a b c e f g = simp (e, f, g)

  pub four_points : used ≡ 4 → good Corners ≡ in_fours used
  four_points h = fours_by true (leb 8 used) (eqb (used % 4) 0) (eq-eqb used 4 h) refl refl

  module _ (n : used ≡ 4 → ⊥) where
    pub under_eight : used < 8 → turned_away (refused 12 0 0) ≡ in_fours used
    under_eight h = fours_by false false (eqb (used % 4) 0) (ne_eqb used 4 n) (lt-leb 8 used h) refl

    pub not_in_fours : 8 ≤ used → (used % 4 ≡ 0 → ⊥) → turned_away (refused 12 0 0) ≡ in_fours used
    not_in_fours h z = fours_by false true false (ne_eqb used 4 n) (le-leb 8 used h) (ne_eqb (used % 4) 0 z)

    pub quartered : 8 ≤ used → used % 4 ≡ 0 → good (Quarters (used / 4)) ≡ in_fours used
    quartered h z = fours_by false true true (ne_eqb used 4 n) (le-leb 8 used h) (eq-eqb (used % 4) 0 z)

module _ (points : List Float) where
  -- ---- the closing point

  abbrev last : ℕ
  last = point_count points - 1

  same : ℕ → ℕ → Bool
  same i j = eq (get_or points i nan) (get_or points j nan)

  used_by : (a b c : Bool) → leb 5 (point_count points) ≡ a → same 0 (2 * last) ≡ b → same 1 (2 * last + 1) ≡ c → cond (a && (b && c)) last (point_count points) ≡ points_used points
  unfolding same points_used closes
  used_by a b c e f g = simp (e, f, g)

  pub under_five : point_count points < 5 → point_count points ≡ points_used points
  under_five h = used_by false _ _ (lt-leb 5 (point_count points) h) refl refl

  module _ (h : 5 ≤ point_count points) where
    pub other_x : eq (get_or points 0 nan) (get_or points (2 * last) nan) ≡ false → point_count points ≡ points_used points
    unfolding same
    other_x e = used_by true false _ (le-leb 5 (point_count points) h) e refl

    pub other_y : eq (get_or points 0 nan) (get_or points (2 * last) nan) ≡ true → eq (get_or points 1 nan) (get_or points (2 * last + 1) nan) ≡ false
        → point_count points ≡ points_used points
    unfolding same
    other_y e f = used_by true true false (le-leb 5 (point_count points) h) e f

    pub closing_point : eq (get_or points 0 nan) (get_or points (2 * last) nan) ≡ true → eq (get_or points 1 nan) (get_or points (2 * last + 1) nan) ≡ true
        → last ≡ points_used points
    unfolding same
    closing_point e f = used_by true true true (le-leb 5 (point_count points) h) e f

  -- ---- 1, then 12

  size_by : (a b : Bool) → ltb max_loop (point_count points) ≡ a → eqb (length points % 2) 0 ≡ b
      → if_passed (refuse_if (a || not b) (refused 1 0 0)) (in_fours (points_used points)) turned_away ≡ from_loop points
  unfolding size_test from_loop
  size_by a b e f = simp (e, f)

  pub too_many : max_loop < point_count points → turned_away (refused 1 0 0) ≡ from_loop points
  too_many h = size_by true _ (lt-ltb max_loop (point_count points) h) refl

  pub odd_values : point_count points ≤ max_loop → (length points % 2 ≡ 0 → ⊥) → turned_away (refused 1 0 0) ≡ from_loop points
  odd_values h n = size_by false false (le-ltb max_loop (point_count points) h) (ne_eqb (length points % 2) 0 n)

  pub whole_points : point_count points ≤ max_loop → length points % 2 ≡ 0 → in_fours (points_used points) ≡ from_loop points
  whole_points h e = size_by false true (le-ltb max_loop (point_count points) h) (eq-eqb (length points % 2) 0 e)

-- ---- the room of the pieces

-- that many points hold them, and there are some
abbrev pub Holds : ℕ → Answer Pieces → Type 0
Holds count (good Corners) = 4 ≤ count
Holds count (good (Quarters n)) = (1 ≤ n) × (4 * n ≤ count)
Holds count (turned_away v) = Unit

fours_held : (used count : ℕ) → used ≤ count → Holds count (in_fours used)
unfolding in_fours
fours_held used count h = go (eqb used 4) (leb 8 used) (eqb (used % 4) 0) refl refl
  where
    go : (a b c : Bool) → eqb used 4 ≡ a → leb 8 used ≡ b
        → Holds count (cond a (good Corners) (cond (b && c) (good (Quarters (used / 4))) (turned_away (refused 12 0 0))))
    go true b c e f = let q = eqb-true used 4 e in omega (arith, q, h)
    go false true true e f = let q = leb-true 8 used f in (omega (arith, q), omega (arith, h))
    go false true false e f = tt
    go false false c e f = tt

used_at_most : (points : List Float) → points_used points ≤ point_count points
unfolding points_used
used_at_most points = go (closes points)
  where
    go : (b : Bool) → cond b (point_count points - 1) (point_count points) ≤ point_count points
    go true = omega arith
    go false = omega arith

pub loop_held : (points : List Float) → Holds (point_count points) (from_loop points)
unfolding from_loop
loop_held points = go (is_passed (size_test points))
  where
    go : (b : Bool) → Holds (point_count points) (elim b [ true ↦ in_fours (points_used points) | false ↦ turned_away (size_test points) ])
    go true = fours_held (points_used points) (point_count points) (used_at_most points)
    go false = tt

-- ---- a quarter, as it is lent

-- the last of four quarters begins after three
quarter_begins : (k n : ℕ) → k < 4 → k * n ≤ 3 * n
quarter_begins zero n h = omega arith
quarter_begins (suc zero) n h = omega arith
quarter_begins (suc (suc zero)) n h = omega arith
quarter_begins (suc (suc (suc zero))) n h = omega arith
quarter_begins (suc (suc (suc (suc k)))) n h = absurd (omega arith)

pub quarter_fits : (points : List Float) (n k : ℕ) → k < 4 → 4 * n ≤ point_count points → 2 * (k * n) + 2 * n ≤ length points
quarter_fits points n k h f = let q = quarter_begins k n h in omega (arith, q, f)

pub quarter_lent : (points : List Float) (n k : ℕ) → take (2 * (k * n) + 2 * n - 2 * (k * n)) (drop (2 * (k * n)) points) ≡ piece (Quarters n) points k
unfolding piece
quarter_lent points n k =
    let start : ℕ = 2 * (k * n) in
    let e : start + 2 * n - start ≡ 2 * n = omega arith in
    ap (λ (m : ℕ). take m (drop start points)) e

-- ---- the sides between four corners, as they are lent: three lie in the list

-- a point, value by value
point_read : (points : List Float) (i : ℕ) → suc i < length points → take 2 (drop i points) ≡ get_or points i nan ∷ get_or points (suc i) nan ∷ []
point_read points i h = ap (take 2) (drop-cons points i nan (omega (arith, h))) ∙ ap (λ (r : List Float). get_or points i nan ∷ take 1 r) (drop-cons points (suc i) nan h)

module _ (points : List Float) where
  pub side_0 : take 4 points ≡ piece Corners points 0
  unfolding piece
  side_0 = take-add 2 2 points

  pub side_1 : take 4 (drop 2 points) ≡ piece Corners points 1
  unfolding piece
  side_1 = take-add 2 2 (drop 2 points) ∙ ap (λ (r : List Float). take 2 (drop 2 points) ++ take 2 r) (drop-drop 2 2 points)

  pub side_2 : take 4 (drop 4 points) ≡ piece Corners points 2
  unfolding piece
  side_2 = take-add 2 2 (drop 4 points) ∙ ap (λ (r : List Float). take 2 (drop 4 points) ++ take 2 r) (drop-drop 2 4 points)

  pub side_3 : 8 ≤ length points → get_or points 6 nan ∷ get_or points 7 nan ∷ get_or points 0 nan ∷ get_or points 1 nan ∷ [] ≡ piece Corners points 3
  unfolding piece
  side_3 h =
      sym
      (ap (λ (r : List Float). r ++ take 2 points) (point_read points 6 (omega (arith, h)))
      ∙ ap (λ (r : List Float). get_or points 6 nan ∷ get_or points 7 nan ∷ r) (point_read points 0 (omega (arith, h))))

-- ---- pieces that are held

pub eight_values : (points : List Float) (p : Pieces) → Holds (point_count points) (good p) → 8 ≤ length points
eight_values points Corners h = omega (arith, h)
eight_values points (Quarters n) h = let few = h.0 in let held = h.1 in omega (arith, few, held)

-- they are there, and so is the side that closes four corners
pub pieces_in : (points : List Float) (p : Pieces) → Holds (point_count points) (good p)
    → PiecesIn p points (get_or points 6 nan ∷ get_or points 7 nan ∷ get_or points 0 nan ∷ get_or points 1 nan ∷ [])
pieces_in points Corners h = (omega (arith, h), side_3 points (omega (arith, h)))
pieces_in points (Quarters n) h = h.1

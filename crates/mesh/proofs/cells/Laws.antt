-- The indices of a mesh as they are written, cell by cell and row by row; and which refusals leave zeros. Assumes nothing.
use mathlib.Core.Path.{◌≡◌, refl, sym, ap, ◌∙◌}
use mathlib.Core.Bool.{Bool, true, false, not, ◌&&◌, cond}
use mathlib.Core.List.{List, [], ◌∷◌}
use mathlib.Core.Logic.{inl, inr}
use Prim.Native.Nat.{ℕ, suc, ◌+◌, ◌*◌, ◌<◌, ◌≤◌}
use native.Mathlib.Nat.{mul_comm, mul_assoc, suc-mul, mul-le-mul_right}
use native.Mathlib.Numerals.{add-one}
use native.Mathlib.Omega.{arith}
use lib.ListN.{length, set}
use lib.Dec.{T, leb}
use denote.Enum.Declared.{tag_of}
use types.Run.{OneOf}
use Rattle.base.specs.Refusal.{verdict_of}
use Rattle.base.specs.declared.refusal.Refusal.{Refusal}
use Rattle.base.specs.declared.refusal.Refusal.TheVariants as because
use Rattle.base.specs.contracts.refusal.Refusal.{the_type}
use Rattle.base.specs.Buffers.{concat_tabulate, splice}
use Rattle.base.proofs.BufferLaws.{length_concat, splice_none, store_next, concat_step}
use Rattle.mesh.specs.Mesh.{grid_index, cell, row_cells, zeroes}
use Rattle.curves.specs.Limits.{max_cells}

-- ---- one cell

-- the row above has its indices n + 1 further
above : (n i j : ℕ) → grid_index n i (j + 1) ≡ grid_index n i j + (n + 1)
above n i j =
    let e : (j + 1) * (n + 1) ≡ j * (n + 1) + (n + 1) = ap (λ (k : ℕ). k * (n + 1)) (add-one j) ∙ suc-mul j (n + 1) in
    omega (arith, e)

stored : (d : List ℕ) (k a b c e : ℕ) → k + 4 ≤ length d → set (set (set (set d k a) (k + 1) b) (k + 2) c) (k + 3) e ≡ splice d k (a ∷ b ∷ c ∷ e ∷ [])
stored d k a b c e h =
    let s0 = store_next d k [] d k a (splice_none d k) (omega arith) (omega arith) in
    let s1 = store_next d k (a ∷ []) _ (k + 1) b s0 refl (omega arith) in
    let s2 = store_next d k (a ∷ b ∷ []) _ (k + 2) c s1 refl (omega arith) in
    store_next d k (a ∷ b ∷ c ∷ []) _ (k + 3) e s2 refl (omega arith)

length_cells : (n j i : ℕ) → length (concat_tabulate (cell n j) 0 i) ≡ 4 * i
unfolding cell
length_cells n j i = length_concat (cell n j) 4 0 i (λ i h. refl) ∙ mul_comm i 4

-- a turn of the loop along row j
pub cell_turn : (n j : ℕ) (d : List ℕ) (from : ℕ) (out : List ℕ) (i at : ℕ)
    → out ≡ splice d from (concat_tabulate (cell n j) 0 i) → at ≡ from + 4 * i → length out ≡ length d → at + 4 ≤ length d
    → let low : ℕ = j * (n + 1) + i in set (set (set (set out at low) (at + 1) (low + 1)) (at + 2) (low + (n + 1) + 1)) (at + 3) (low + (n + 1)) ≡ splice d from (concat_tabulate (cell n j) 0 (i + 1))
unfolding cell
cell_turn n j d from out i at o e l h =
    let low : ℕ = j * (n + 1) + i in
    let high : ℕ = low + (n + 1) in
    let q = length_cells n j i in
    let t : low + 1 ≡ grid_index n (i + 1) j = omega arith in
    let u : high + 1 ≡ grid_index n (i + 1) (j + 1) = let a = above n (i + 1) j in omega (arith, a) in
    let v : high ≡ grid_index n i (j + 1) = sym (above n i j) in
    concat_step d from (cell n j) out i at _ o (omega (arith, e, q)) (omega (arith, h))
    (stored out at low (low + 1) (high + 1) high (omega (arith, l, h))
    ∙ ap (λ (x : ℕ). splice out at (low ∷ x ∷ (high + 1) ∷ high ∷ [])) t
    ∙ ap (λ (x : ℕ). splice out at (low ∷ grid_index n (i + 1) j ∷ x ∷ high ∷ [])) u
    ∙ ap (λ (x : ℕ). splice out at (low ∷ grid_index n (i + 1) j ∷ grid_index n (i + 1) (j + 1) ∷ x ∷ [])) v)

-- the indices stay far below 2^32
pub first_small : (n j : ℕ) → n ≤ max_cells → j < max_cells → j * (n + 1) ≤ 1048575
first_small n j h g =
    let a : j * (n + 1) ≤ 1023 * (n + 1) = mul-le-mul_right (n + 1) (omega (arith, g)) in
    omega (arith, a, h)

-- ---- the rows

length_row : (n j : ℕ) → length (row_cells n j) ≡ 4 * n
unfolding row_cells
length_row n j = length_cells n j n

pub length_rows : (n m : ℕ) → length (concat_tabulate (row_cells n) 0 m) ≡ m * (4 * n)
length_rows n m = length_concat (row_cells n) (4 * n) 0 m (λ j h. length_row n j)

pub next_row : (n j : ℕ) → (j + 1) * (4 * n) ≡ j * (4 * n) + 4 * n
next_row n j = ap (λ (k : ℕ). k * (4 * n)) (add-one j) ∙ suc-mul j (4 * n)

-- row j of m ends within what is needed
pub row_fits : (n m j : ℕ) → j < m → j * (4 * n) + 4 * n ≤ 4 * (m * n)
row_fits n m j h =
    let a : (j + 1) * (4 * n) ≤ m * (4 * n) = mul-le-mul_right (4 * n) (omega (arith, h)) in
    let b = next_row n j in
    let e : m * (4 * n) ≡ 4 * (m * n) = sym (mul_assoc m 4 n) ∙ ap (λ (k : ℕ). k * n) (mul_comm m 4) ∙ mul_assoc 4 m n in
    omega (arith, a, b, e)

-- ---- 23 to 25

-- whether a cause of this tag leaves zeros
abbrev among : ℕ → Bool
among x = leb 23 (suc x) && leb (suc x) 25

-- the causes that leave zeros are those of these tags
pub zeroes_by_tag : (r : Refusal) → among (tag_of the_type r) ≡ zeroes (verdict_of r)
unfolding verdict_of
zeroes_by_tag because.Malformed = refl
zeroes_by_tag (because.BadIdeal e) = refl
zeroes_by_tag (because.EdgeOutOfRange r s) = refl
zeroes_by_tag (because.EdgeRepeated r s) = refl
zeroes_by_tag (because.EdgeOnBothSides r s) = refl
zeroes_by_tag (because.EdgeOverused e) = refl
zeroes_by_tag because.TooManyMoves = refl
zeroes_by_tag because.LengthsDiffer = refl
zeroes_by_tag (because.CountTooLarge e) = refl
zeroes_by_tag because.LimitTooLarge = refl
zeroes_by_tag because.OutputTooShort = refl
zeroes_by_tag because.BadLoop = refl
zeroes_by_tag (because.CurveTooShort k) = refl
zeroes_by_tag (because.PointNotFinite k) = refl
zeroes_by_tag (because.BadCurveLength k) = refl
zeroes_by_tag (because.CurvesApart k) = refl
zeroes_by_tag because.CornersClockwise = refl
zeroes_by_tag (because.SeamTooShort k) = refl
zeroes_by_tag (because.SeamOutOfRange k i) = refl
zeroes_by_tag (because.SeamFalling k i) = refl
zeroes_by_tag (because.SeamEnds k) = refl
zeroes_by_tag (because.SeamsUnequal k) = refl
zeroes_by_tag (because.LinesParallel i j) = refl
zeroes_by_tag (because.CrossingOutside i j) = refl
zeroes_by_tag (because.BadQuadArea i j) = refl
zeroes_by_tag because.NoCells = refl
zeroes_by_tag (because.BreaksMismatch k) = refl
zeroes_by_tag because.RootUndefined = refl
zeroes_by_tag (because.RangeReversed e) = refl

-- whether b is the answer for every tag of a list
abbrev answers : Bool → List ℕ → Bool
answers b [] = true
answers b (k ∷ ks) = cond (among k) b (not b) && answers b ks

both : (a b : Bool) → T (a && b) → T a × T b
both true b t = (tt, t)
both false b t = absurd t

agree : (a b : Bool) → T (cond a b (not b)) → b ≡ a
agree true true t = refl
agree true false t = absurd t
agree false true t = absurd t
agree false false t = refl

by_tags : (b : Bool) (k : ℕ) (ks : List ℕ) (x : ℕ) → T (answers b (k ∷ ks)) → OneOf (k ∷ ks) x → b ≡ among x
by_tags b k [] x a e = agree (among k) b (both (cond (among k) b (not b)) true a).0 ∙ ap among (sym e)
by_tags b k (l ∷ ks) x a (inl e) = agree (among k) b (both (cond (among k) b (not b)) (answers b (l ∷ ks)) a).0 ∙ ap among (sym e)
by_tags b k (l ∷ ks) x a (inr o) = by_tags b l ks x (both (cond (among k) b (not b)) (answers b (l ∷ ks)) a).1 o

pub zeroes_by_tags : (b : Bool) (k : ℕ) (ks : List ℕ) (r : Refusal) → T (answers b (k ∷ ks)) → OneOf (k ∷ ks) (tag_of the_type r) → b ≡ zeroes (verdict_of r)
zeroes_by_tags b k ks r a o = by_tags b k ks (tag_of the_type r) a o ∙ zeroes_by_tag r

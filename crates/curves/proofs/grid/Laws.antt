-- A row of points as a loop writes and tests it, and the patch's points from crossings or from columns. Assumes nothing.
use mathlib.Core.Path.{◌≡◌, refl, sym, ap, subst, ◌∙◌}
use mathlib.Core.List.{List}
use Prim.Native.Nat.{ℕ, ◌+◌, ◌-◌, ◌<◌, ◌≤◌}
use native.Mathlib.Nat.{zero-add}
use native.Mathlib.Omega.{arith}
use lib.ListN.{length, get_or, set, length-set}
use lib.Dec.{T}
use lib.Ieee.{Float, nan}
use Rattle.std.specs.Prelude.{Result, IsErrAnd}
use Rattle.base.specs.Refusal.{passed, verdict_of, outcome, is_passed}
use Rattle.base.specs.declared.refusal.Refusal.{Refusal}
use Rattle.base.specs.Answers.{Answer, good, turned_away, verdict}
use Rattle.base.specs.Tests.{first_of}
use Rattle.floats.specs.Scalar.{clamp_unit}
use Rattle.curves.specs.Point.{point, no_point}
use Rattle.curves.specs.Boundary.{BoundaryCurves, curve_ends}
use Rattle.curves.specs.Patch.{coons_point}
use Rattle.curves.specs.inner.Columns.{column_on, row_on, patch_point, no_column}
use Rattle.curves.specs.Grid.{node, mapped, PointRow, crossings, row_of, row_test}
use Rattle.curves.specs.inner.Rows.{row_points, point_in, RowFilled}
use Rattle.curves.specs.inner.Grids.{Mapped}
use Rattle.curves.specs.declared.boundary.Ends.{Ends}
use Rattle.curves.specs.declared.patch.Column.{Column}
use Rattle.curves.specs.declared.patch.Row.{Row as PatchRow}
use Rattle.curves.specs.declared.point.Point.{Point}
use Rattle.base.proofs.TestLaws.{refusal_not_passed, exit_is, first_start, first_next, first_stops, first_done, first_same, first_all, first_each}
use Rattle.curves.proofs.Filling.{by_index, stored_more}
use Rattle.curves.proofs.crossing.Laws.{There, crossing_there}
use Rattle.curves.proofs.patch.Laws.{patched}
use Rattle.curves.proofs.rows.Whole.{point_of_row}

-- ---- one point

module _ (c : BoundaryCurves) where
  mapped_good : (p : Point) → mapped c (good p) ≡ good (coons_point c p.x p.y)
  unfolding mapped
  mapped_good p = refl

  mapped_verdict : (x : Answer Point) → verdict (mapped c x) ≡ verdict x
  unfolding mapped
  mapped_verdict (good p) = refl
  mapped_verdict (turned_away v) = refl

  -- the patch's point at a crossing
  there : (x : Answer Point) → There x → coons_point c (node x).x (node x).y ≡ node (mapped c x)
  there (good p) h = sym (ap node (mapped_good p))
  there (turned_away w) h = absurd h

-- ---- a row of n + 1 points, as the loop writes it

-- the points before i are there and have passed
pub record Begun (f : PointRow) (n i : ℕ) (row : List Point) : Type 0 where
  pub long : length row ≡ n + 1
  pub there : (k : ℕ) → k < i → point_in row k ≡ node (f k)
  pub left : row_test f n ≡ first_of (λ (k : ℕ). verdict (f k)) i (n + 1 - i)

module _ {f : PointRow} {n : ℕ} where
  pub row_begins : {row : List Point} → length row ≡ n + 1 → Begun f n 0 row
  unfolding row_test
  row_begins e = record { long = e; there = λ k h. absurd (omega arith); left = first_start (λ (k : ℕ). verdict (f k)) (n + 1) }

  -- the point i is written
  pub row_goes_on : {i : ℕ} {row : List Point} (p : Point) → Begun f n i row → i ≤ n → good p ≡ f i → Begun f n (i + 1) (set row i p)
  row_goes_on {i} {row} p s h q = record {
    long = rw length-set s.long;
    there = stored_more (λ (k : ℕ). node (f k)) row no_point (omega (arith, s.long)) s.there (ap node q);
    left = s.left ∙ first_next (λ (k : ℕ). verdict (f k)) i (n + 1) (omega arith) (ap verdict q);
  }

  -- the point i is refused
  pub row_stops : {A : Type 0} {i : ℕ} {row after : List Point} (o : Result A Refusal) (r : Refusal) → IsErrAnd o (λ (e : Refusal). e ≡ r) → Begun f n i row
      → i ≤ n → turned_away (verdict_of r) ≡ f i → RowFilled f n after (outcome o)
  row_stops {i = i} o r k s h q = record {
    told = exit_is o r k ∙ first_stops (λ (k : ℕ). verdict (f k)) i (n + 1) r (omega arith) (ap verdict q) ∙ sym s.left;
    written = λ t. absurd (refusal_not_passed r (outcome o) (sym (exit_is o r k)) t);
  }

  pub row_ends : {i : ℕ} {row : List Point} → Begun f n i row → n < i → RowFilled f n row passed
  unfolding row_points
  row_ends {i} {row} s h = record {
    told = first_done (λ (k : ℕ). verdict (f k)) i (n + 1) (omega arith) ∙ sym s.left;
    written = λ t. by_index (λ (k : ℕ). node (f k)) (n + 1) row no_point s.long (λ k l. s.there k (omega arith));
  }

-- ---- the patch's points, in the place of their crossings

module _ (c : BoundaryCurves) (bottom top : List Float) (a b : Float) (j : ℕ) where
  of_crossing : (i : ℕ) → row_of c bottom top a b j i ≡ mapped c (crossings bottom top a b j i)
  unfolding row_of
  of_crossing i = refl

  -- the same points are refused
  pub mapped_test : (n : ℕ) → row_test (row_of c bottom top a b j) n ≡ row_test (crossings bottom top a b j) n
  unfolding row_test
  mapped_test n =
      first_same (λ (i : ℕ). verdict (row_of c bottom top a b j i)) (λ (i : ℕ). verdict (crossings bottom top a b j i)) 0 (n + 1)
      (λ i h. ap verdict (of_crossing i) ∙ mapped_verdict c (crossings bottom top a b j i))

  module _ (n : ℕ) (row : List Point) (t : T (is_passed (row_test (crossings bottom top a b j) n)))
      (e : row ≡ row_points (crossings bottom top a b j) n) where
    passed_at : (i : ℕ) → i ≤ n → T (is_passed (verdict (crossings bottom top a b j i)))
    unfolding row_test
    passed_at i h =
        subst (λ (k : ℕ). T (is_passed (verdict (crossings bottom top a b j k)))) (zero-add i)
        (first_each (λ (k : ℕ). verdict (crossings bottom top a b j k)) 0 (n + 1) i t (omega arith))

    mapped_at : (i : ℕ) → i ≤ n → coons_point c (point_in row i).x (point_in row i).y ≡ node (row_of c bottom top a b j i)
    mapped_at i h =
        let x = crossings bottom top a b j i in
        let at : point_in row i ≡ node x = ap (λ (r : List Point). point_in r i) e ∙ point_of_row (crossings bottom top a b j) n i h in
        ap (λ (p : Point). coons_point c p.x p.y) at
        ∙ there c x (crossing_there a b (get_or bottom i nan) (get_or top i nan) i j (passed_at i h))
        ∙ ap node (sym (of_crossing i))

  -- a row of crossings that passed, with the patch's points in their place
  pub mapped_row : (n : ℕ) (row after : List Point) → T (is_passed (row_test (crossings bottom top a b j) n)) → row ≡ row_points (crossings bottom top a b j) n
      → length row ≡ n + 1 → Mapped c row after → after ≡ row_points (row_of c bottom top a b j) n
  unfolding row_points
  mapped_row n row after t e l m =
      by_index (λ (i : ℕ). node (row_of c bottom top a b j i)) (n + 1) after no_point (m.each ∙ l)
      (λ i h. m.holds i (omega arith) ∙ mapped_at n row t e i (omega arith))

-- ---- a level line, whose crossings lie at the seam's values

-- by n + 1 columns or more, of which each point takes the one at its index
module _ (c : BoundaryCurves) (b t : Ends) (bottom top : List Float) (columns : List Column) (v : Float) (j n : ℕ) (across : PatchRow)
    (eb : b ≡ curve_ends c.bottom) (et : t ≡ curve_ends c.top)
    (w : (i : ℕ) → i ≤ n → get_or columns i no_column ≡ column_on c.bottom c.top b t (clamp_unit (get_or bottom i nan)))
    (ea : across ≡ row_on c.right c.left v)
    (h : (i : ℕ) → i ≤ n → (clamp_unit (get_or bottom i nan) ≡ get_or bottom i nan) × (crossings bottom top v v j i ≡ good (point (get_or bottom i nan) v))) where
  abbrev points_of : PointRow
  points_of = row_of c bottom top v v j

  level_at : (i : ℕ) → i ≤ n → points_of i ≡ good (coons_point c (get_or bottom i nan) v)
  level_at i l = of_crossing c bottom top v v j i ∙ ap (mapped c) (h i l).1 ∙ mapped_good c (point (get_or bottom i nan) v)

  level_same : (i : ℕ) → i ≤ n → patch_point (get_or columns i no_column) across v ≡ node (points_of i)
  level_same i l =
      let u : Float = get_or bottom i nan in
      let column = column_on c.bottom c.top b t in
      let k : get_or columns i no_column ≡ column u = w i l ∙ ap column (h i l).0 in
      ap (λ (x : Column). patch_point x across v) k
      ∙ ap (λ (x : PatchRow). patch_point (column u) x v) ea
      ∙ patched c u v eb et
      ∙ sym (ap node (level_at i l))

  pub level_row : (points : List Point) → length points ≡ n + 1
      → ((i : ℕ) → i ≤ n → get_or points i no_point ≡ patch_point (get_or columns i no_column) across v)
      → (points ≡ row_points points_of n) × (row_test points_of n ≡ passed)
  unfolding row_points row_test
  level_row points long q = (
    by_index (λ (i : ℕ). node (points_of i)) (n + 1) points no_point long (λ i l. q i (omega arith) ∙ level_same i (omega arith)),
    first_all (λ (i : ℕ). verdict (points_of i)) 0 (n + 1) (λ i l. ap verdict (level_at i (omega arith))),
  )

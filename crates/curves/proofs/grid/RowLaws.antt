-- A row of the grid from its crossings, or from the columns where its lines are level and upright. Assumes nothing.
use mathlib.Core.Path.{◌≡◌, sym, ap, subst, ◌∙◌}
use mathlib.Core.List.{List}
use Prim.Native.Nat.{ℕ, ◌+◌, ◌<◌}
use native.Mathlib.Omega.{arith}
use lib.ListN.{length, get_or}
use lib.Dec.{T}
use lib.Ieee.{Float, nan}
use Rattle.base.specs.declared.verdict.Verdict.{Verdict}
use Rattle.std.specs.Prelude.{Result, IsErrAnd}
use Rattle.base.specs.Refusal.{passed, verdict_of, outcome, is_passed}
use Rattle.base.specs.declared.refusal.Refusal.{Refusal}
use Rattle.base.specs.Answers.{good}
use Rattle.floats.specs.Scalar.{clamp_unit}
use Rattle.curves.specs.Point.{point}
use Rattle.curves.specs.Crossing.{logical_intersection}
use Rattle.curves.specs.Boundary.{BoundaryCurves}
use Rattle.curves.specs.inner.Columns.{row_at, LevelPoints}
use Rattle.curves.specs.inner.Level.{Plain, Straight}
use Rattle.curves.specs.inner.Curves.{curves_of}
use Rattle.curves.specs.inner.Grids.{row_cells, LevelGiven, Mapped}
use Rattle.curves.specs.Grid.{crossings, row_of, row_test}
use Rattle.curves.specs.inner.Rows.{row_points, RowFilled}
use Rattle.curves.specs.declared.boundary.Patch.{Patch}
use Rattle.curves.specs.declared.patch.Column.{Column}
use Rattle.curves.specs.declared.patch.Row.{Row as PatchRow}
use Rattle.curves.specs.declared.point.Point.{Point}
use Rattle.base.proofs.TestLaws.{exit_is, refusal_not_passed}
use Rattle.curves.proofs.level.Laws.{level_crossing}
use Rattle.curves.proofs.grid.Laws.{mapped_row, mapped_test, level_row}

-- ---- level lines across upright ones

crosses_there : (bottom top : List Float) (v : Float) (i j : ℕ) → Straight (get_or bottom i nan) (get_or top i nan) → Plain v
    → (clamp_unit (get_or bottom i nan) ≡ get_or bottom i nan) × (crossings bottom top v v j i ≡ good (point (get_or bottom i nan) v))
crosses_there bottom top v i j s p = (
  s.1.clamped,
  ap (λ (d : Float). logical_intersection v v (get_or bottom i nan) d i j) (sym s.0) ∙ level_crossing v (get_or bottom i nan) i j p s.1,
)

pub level_filled : (p : Patch) {bottom top : List Float} {columns : List Column} {row : List Point} {v0 v1 : Float} {across : PatchRow} (j : ℕ)
    → LevelGiven p bottom top columns → 0 < length bottom → Straight v0 v1 → across ≡ row_at p v0 → LevelPoints columns across v0 row
    → RowFilled (row_of (curves_of p) bottom top v0 v1 j) (row_cells bottom) row passed
level_filled p {bottom} {top} {columns} {row} {v0 = v0} {across = across} j w h s ea er =
    let n = row_cells bottom in
    let held = w.held in
    let l =
    level_row (curves_of p) p.bottom p.top bottom top columns v0 j n across p.bottom_ends p.top_ends (λ i k. held.holds i (omega arith)) ea
    (λ i k. crosses_there bottom top v0 i j (w.lines i (omega arith)) s.1) row (omega (arith, er.each, held.each)) (λ i k. er.holds i (omega (arith, held.each))) in
    record {
      told = sym l.1 ∙ ap (λ (x : Float). row_test (row_of (curves_of p) bottom top v0 x j) n) s.0;
      written = λ t. l.0 ∙ ap (λ (x : Float). row_points (row_of (curves_of p) bottom top v0 x j) n) s.0;
    }

-- ---- any other lines

module _ (c : BoundaryCurves) (bottom top : List Float) (a b : Float) (j : ℕ) where
  pub crossing_refused : {A : Type 0} {n : ℕ} {mid row : List Point} (o : Result A Refusal) (r : Refusal) → IsErrAnd o (λ (e : Refusal). e ≡ r)
      → RowFilled (crossings bottom top a b j) n mid (verdict_of r) → RowFilled (row_of c bottom top a b j) n row (outcome o)
  crossing_refused {n = n} o r k s = record {
    told = exit_is o r k ∙ s.told ∙ sym (mapped_test c bottom top a b j n);
    written = λ t. absurd (refusal_not_passed r (outcome o) (sym (exit_is o r k)) t);
  }

  pub mapped_filled : {n : ℕ} {mid row : List Point} → RowFilled (crossings bottom top a b j) n mid passed
      → length mid ≡ n + 1 → Mapped c mid row → RowFilled (row_of c bottom top a b j) n row passed
  mapped_filled {n} {mid} {row} s l m =
      let t : T (is_passed (row_test (crossings bottom top a b j) n)) = subst (λ (v : Verdict). T (is_passed v)) s.told tt in
      record {
        told = s.told ∙ sym (mapped_test c bottom top a b j n);
        written = λ u. mapped_row c bottom top a b j n mid row t (s.written tt) l m;
      }

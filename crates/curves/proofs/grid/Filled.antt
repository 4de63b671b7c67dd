-- A grid row by row, as a loop works it out: its tests by the outcomes of the rows, and what the output is left with. Before row j the rows below
-- it have passed and what they add is written; a row that is refused ends it, and after the last row the quads' first refusal is the grid's.
-- Assumes nothing.
use mathlib.Core.Path.{◌≡◌, refl, sym, ap, subst, ◌∙◌}
use mathlib.Core.Bool.{Bool, cond}
use mathlib.Core.List.{List}
use Prim.Native.Nat.{ℕ, ◌+◌, ◌-◌, ◌*◌, ◌≤◌, ◌<◌}
use native.Mathlib.Omega.{arith}
use lib.ListN.{length}
use lib.Ieee.{Float}
use Rattle.base.specs.declared.verdict.Verdict.{Verdict}
use Rattle.std.specs.Prelude.{Result, Ok, Err, IsErrAnd}
use Rattle.base.specs.Refusal.{passed, verdict_of, outcome, is_passed, then_test}
use Rattle.base.specs.declared.refusal.Refusal.{Refusal}
use Rattle.base.proofs.TestLaws.{refusal_number, refusal_not_passed, exit_is, chain_stops, chain_goes_on, first_start, first_next, first_stops, first_done, follows, refuses}
use Rattle.base.specs.Buffers.{concat_tabulate, splice}
use Rattle.base.specs.Tests.{first_of}
use Rattle.curves.specs.Quad.{zeros}
use Rattle.curves.specs.Grid.{PointRow, Grid, row_test, points_test, quads_test, grid_test, grid_values, needed}
use Rattle.curves.specs.inner.Rows.{row_points, row_part, grid_part, row_size, RowFilled, RowLaid, Laid}
use Rattle.curves.specs.inner.Grids.{Gridded}
use Rattle.curves.specs.Coons.{Outcome, refusal, filled}
use Rattle.curves.specs.declared.point.Point.{Point}
use Rattle.curves.specs.declared.rows.Layout.{Layout}
use Rattle.base.proofs.BufferLaws.{splice_none}
use Rattle.curves.proofs.rows.Laws.{RowBefore, none_before, row_passed, CellsLeft, cells_begin, cells_step, cells_end}
use Rattle.curves.proofs.rows.Laws.{row_fits, row_end, row_written, rows_written, rows_cleared}

-- a row that has passed
pub row_read : {f : PointRow} {n : ℕ} {row : List Point} → RowFilled f n row passed → row ≡ row_points f n
row_read s = s.written tt

-- ---- the tests of the points

module _ (f : Grid) (n m : ℕ) where
  abbrev row_tests : ℕ → Verdict
  row_tests j = row_test (f j) n

  -- the rows from j on are still to be tested
  abbrev RowsLeft : ℕ → Type 0
  RowsLeft j = points_test f n m ≡ first_of row_tests j (m + 1 - j)

  rows_begin : RowsLeft 0
  unfolding points_test
  rows_begin = first_start row_tests (m + 1)

  rows_next : (j : ℕ) → RowsLeft j → j ≤ m → passed ≡ row_test (f j) n → RowsLeft (j + 1)
  rows_next j l h o = l ∙ first_next row_tests j (m + 1) (omega arith) o

  row_stops : (j : ℕ) (r : Refusal) → RowsLeft j → j ≤ m → verdict_of r ≡ row_test (f j) n → verdict_of r ≡ grid_test f n m
  unfolding grid_test
  row_stops j r l h o = chain_stops r (quads_test f n m) (first_stops row_tests j (m + 1) r (omega arith) o ∙ sym l)

  rows_passed : (j : ℕ) → RowsLeft j → m < j → passed ≡ points_test f n m
  rows_passed j l h = first_done row_tests j (m + 1) (omega arith) ∙ sym l

  grid_told : (j : ℕ) (v : Verdict) → RowsLeft j → m < j → v ≡ quads_test f n m → v ≡ grid_test f n m
  unfolding grid_test
  grid_told j v l h o = o ∙ chain_goes_on (rows_passed j l h)

-- ---- before row j, which is written from `at` on: `low` is the row below it, if there is one, and `cells` the quads' first refusal

pub record RowsTo (layout : Layout) (f : Grid) (n m : ℕ) (d : List Float) (j at : ℕ) (low : List Point) (out : List Float) (cells : Verdict) : Type 0 where
  pub within : j ≤ m + 1
  pub at_is : at ≡ length (concat_tabulate (grid_part layout f n) 0 j)
  pub written : out ≡ splice d 0 (concat_tabulate (grid_part layout f n) 0 j)
  pub below : RowBefore f n j low
  pub left : RowsLeft f n m j
  pub tested : CellsLeft f n m j cells

pub no_rows : {layout : Layout} {f : Grid} {n m : ℕ} {d : List Float} {low : List Point} → RowsTo layout f n m d 0 0 low d passed
no_rows {f = f} {n = n} {m = m} {d = d} {low = low} = record {
  within = omega arith;
  at_is = refl;
  written = splice_none d 0;
  below = none_before f n low;
  left = rows_begin f n m;
  tested = cells_begin f n m;
}

module _ {layout : Layout} {f : Grid} {n m : ℕ} {d : List Float} {j at : ℕ} {low : List Point} {out : List Float} {cells : Verdict}
    (r : RowsTo layout f n m d j at low out cells) where
  -- what row j adds has room
  pub row_has_room : {high : List Point} → j ≤ m → needed layout n m ≤ length d → high ≡ row_points (f j) n → at + length (row_part layout low high n j) ≤ length d
  row_has_room {high} h k e = row_fits f n layout d m j at low high r.below e r.at_is h k

  -- row j is refused
  pub rows_refused : {A : Type 0} {row : List Point} (o : Result A Refusal) (cause : Refusal) → IsErrAnd o (λ (e : Refusal). e ≡ cause) → j ≤ m
      → RowFilled (f j) n row (verdict_of cause) → Laid layout f n m d out (outcome o)
  rows_refused o cause k h s = record {
    told = exit_is o cause k ∙ row_stops f n m j cause r.left h s.told;
    rows = j;
    up_to = r.within;
    all = λ t. absurd (refusal_not_passed cause (outcome o) (sym (exit_is o cause k)) t);
    written = r.written;
  }

  -- row j has passed: it is `high`, it is written and what is below it is tested
  pub next_row : {high : List Point} {next : List Float} {below cells' : Verdict} {size : ℕ} → j ≤ m → needed layout n m ≤ length d
      → RowFilled (f j) n high passed
      → RowLaid layout low high n j at out next below → cells' ≡ then_test cells below → size ≡ row_size layout n j
      → RowsTo layout f n m d (j + 1) (at + size) high next cells'
  next_row {high = high} {next} {below} {cells'} {size} h k s w o z = let row = row_read s in record {
    within = omega arith;
    at_is = row_end f n layout j at (at + size) low high r.below row r.at_is (ap (λ (x : ℕ). at + x) z);
    written = row_written f n layout d out next m j at low high r.below row r.at_is h k r.written w.written;
    below = row_passed f n j high row;
    left = rows_next f n m j r.left h s.told;
    tested = subst (CellsLeft f n m (j + 1)) (sym o) (cells_step f n m j low high cells below h r.below row r.tested w.told);
  }

-- there are no more rows
pub rows_done : {A : Type 0} {layout : Layout} {f : Grid} {n m : ℕ} {d : List Float} {j at : ℕ} {low : List Point} {out : List Float} (cells : Result A Refusal)
    → RowsTo layout f n m d j at low out (outcome cells) → m < j → Laid layout f n m d out (outcome cells)
rows_done {f = f} {n = n} {m = m} {j = j} cells r h = record {
  told = grid_told f n m j (outcome cells) r.left h (cells_end f n m j cells r.tested h);
  rows = j;
  up_to = r.within;
  all = λ t. omega (arith, r.within);
  written = r.written;
}

-- ---- what is left once a refusal has cleared the needed output

module _ (f : Grid) (n m : ℕ) (layout : Layout) (d : List Float) where
  -- what `filled` comes to
  abbrev pub good_grid : Outcome
  good_grid = record { verdict = passed; quads = m * n; out = splice d 0 (grid_values layout f n m) }

  abbrev pub no_grid : Verdict → Outcome
  no_grid = refusal (splice d 0 (zeros (needed layout n m)))

  left_cleared : (last : List Float) (cause : Refusal) → verdict_of cause ≡ grid_test f n m → last ≡ splice d 0 (zeros (needed layout n m))
      → last ≡ (filled layout f n m d).out
  unfolding filled
  left_cleared last cause o e = e ∙ ap (λ (x : Outcome). x.out) (refuses good_grid no_grid cause (grid_test f n m) o)

  left_filled : (last : List Float) → passed ≡ grid_test f n m → last ≡ splice d 0 (grid_values layout f n m) → last ≡ (filled layout f n m d).out
  unfolding filled
  left_filled last o e = e ∙ ap (λ (x : Outcome). x.out) (follows good_grid no_grid (grid_test f n m) o)

  laid_filled : {A : Type 0} (c : Result A Refusal) (out last : List Float) → Laid layout f n m d out (outcome c) → needed layout n m ≤ length d
      → last ≡ cond (is_passed (outcome c)) out (splice out 0 (zeros (needed layout n m))) → last ≡ (filled layout f n m d).out
  laid_filled (Ok _) out last l r e =
      let a = l.all tt in
      left_filled last l.told (e ∙ rows_written f n layout d out m l.rows l.written (omega (arith, a)) l.up_to)
  laid_filled (Err cause) out last l r e =
      left_cleared last cause l.told (rows_cleared f n layout d out last m l.rows l.written l.up_to r
      (e ∙ ap (λ (b : Bool). cond b out (splice out 0 (zeros (needed layout n m)))) (refusal_number cause)))

pub gridded : {A : Type 0} {layout : Layout} {f : Grid} {n m : ℕ} {d out last : List Float} (c : Result A Refusal) → Laid layout f n m d out (outcome c) → needed layout n m ≤ length d
    → last ≡ cond (is_passed (outcome c)) out (splice out 0 (zeros (needed layout n m))) → Gridded layout f n m d last (outcome c)
gridded {layout = layout} {f = f} {n = n} {m = m} {d = d} {out = out} {last = last} c l r e = record { told = l.told; left = laid_filled f n m layout d c out last l r e }

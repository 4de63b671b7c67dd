-- The rows of points that the code goes over, two at a time, hold the points and the quads of the grid itself: 25 along them is the grid's, and what
-- they add to the output, one after the other, is what the grid writes. Assumes nothing.
use mathlib.Core.Path.{◌≡◌, refl, sym, ap, ◌∙◌}
use mathlib.Core.List.{List}
use Prim.Native.Nat.{ℕ, zero, suc, ◌+◌, ◌-◌, ◌<◌, ◌≤◌}
use native.Mathlib.Nat.{zero-add}
use native.Mathlib.Numerals.{add-one}
use native.Mathlib.Omega.{arith}
use lib.Ieee.{Float}
use Rattle.base.specs.declared.verdict.Verdict.{Verdict}
use Rattle.base.specs.Buffers.{concat_tabulate}
use Rattle.base.specs.Tests.{first_of}
use Rattle.curves.specs.Point.{no_point}
use Rattle.curves.specs.Quad.{quad_test}
use Rattle.curves.specs.Grid.{PointRow, Grid, node, grid_quad, area_test, quads_test, quad_values, corner_values, node_values, grid_values}
use Rattle.curves.specs.inner.Rows.{row_points, point_in, cell_test, cells_test, below_test, quads_between, nodes_of, row_part, grid_part}
use Rattle.curves.specs.declared.point.Point.{Point}
use Rattle.curves.specs.declared.rows.Layout.{Layout}
use Rattle.curves.specs.declared.rows.Layout.TheVariants.{Quads, Nodes}
use Rattle.base.proofs.BufferLaws.{concat_same}
use Rattle.base.proofs.TestLaws.{first_same, first_shifted}
use Rattle.curves.proofs.Filling.{at_index}

-- ---- a row

pub point_of_row : (f : PointRow) (n i : ℕ) → i ≤ n → point_in (row_points f n) i ≡ node (f i)
unfolding row_points
point_of_row f n i h = at_index (λ (k : ℕ). node (f k)) 0 (n + 1) i no_point (omega arith) ∙ ap (λ (k : ℕ). node (f k)) (zero-add i)

pub nodes_of_row : (f : PointRow) (n : ℕ) → nodes_of (row_points f n) n ≡ concat_tabulate (λ (i : ℕ). node_values (node (f i))) 0 (n + 1)
unfolding nodes_of
nodes_of_row f n = concat_same (λ (i : ℕ). node_values (point_in (row_points f n) i)) (λ (i : ℕ). node_values (node (f i))) 0 (n + 1)
    (λ i h. ap node_values (point_of_row f n i (omega arith)))

-- ---- two rows of a grid

module _ (f : Grid) (n : ℕ) where
  -- whatever is made of the four corners of a quad
  quad_of_rows : {A : Type 0} (make : Point → Point → Point → Point → A) (j i : ℕ) → i < n
      → make (point_in (row_points (f j) n) i) (point_in (row_points (f j) n) (i + 1)) (point_in (row_points (f (j + 1)) n) (i + 1))
      (point_in (row_points (f (j + 1)) n) i)
      ≡ make (node (f j i)) (node (f j (i + 1))) (node (f (j + 1) (i + 1))) (node (f (j + 1) i))
  quad_of_rows make j i h = rw (
    point_of_row (f j) n i (omega arith),
    point_of_row (f j) n (i + 1) (omega arith),
    point_of_row (f (j + 1)) n (i + 1) (omega arith),
    point_of_row (f (j + 1)) n i (omega arith),
  )

  abbrev quad_tests : ℕ → ℕ → Verdict
  quad_tests j i = area_test (grid_quad f j i) i j

  abbrev row_quads : ℕ → ℕ → List Float
  row_quads j i = corner_values (grid_quad f j i)

  -- 25 of the quads between rows j and j + 1 of the points
  pub cells_of_rows : (j : ℕ) → cells_test (row_points (f j) n) (row_points (f (j + 1)) n) n j ≡ first_of (quad_tests j) 0 n
  unfolding cells_test
  cells_of_rows j = first_same (cell_test (row_points (f j) n) (row_points (f (j + 1)) n) j) (quad_tests j) 0 n
      (λ i h. quad_of_rows (λ (a b c d : Point). quad_test a b c d i j) j i (omega arith))

  pub quads_of_rows : (j : ℕ) → quads_between (row_points (f j) n) (row_points (f (j + 1)) n) n ≡ concat_tabulate (row_quads j) 0 n
  unfolding quads_between
  quads_of_rows j = concat_same _ (row_quads j) 0 n (λ i h. quad_of_rows quad_values j i (omega arith))

-- ---- all rows. Once row j of the points is there, the quads below it are tested and written, which are those of row j - 1: so the quads are shifted
-- by one, and the lowest row has none.

concat_shifted : (f g : ℕ → List Float) → ((j : ℕ) → f (suc j) ≡ g j) → (k n : ℕ) → concat_tabulate f (suc k) n ≡ concat_tabulate g k n
concat_shifted f g h k zero = refl
concat_shifted f g h k (suc n) = rw (h, concat_shifted f g h (suc k) n)

module _ (f : Grid) (n : ℕ) where
  abbrev pub cells_below : ℕ → Verdict
  cells_below j = below_test (row_points (f (j - 1)) n) (row_points (f j) n) n j

  cells_at : (j : ℕ) → cells_below (suc j) ≡ first_of (quad_tests f n j) 0 n
  unfolding below_test
  cells_at j =
      let e : suc j - 1 ≡ j = omega arith in
      ap (λ (i : ℕ). cells_test (row_points (f i) n) (row_points (f (suc j)) n) n j) e
      ∙ ap (λ (i : ℕ). cells_test (row_points (f j) n) (row_points (f i) n) n j) (sym (add-one j))
      ∙ cells_of_rows f n j

  pub tests_of_grid : (m : ℕ) → first_of cells_below 0 (m + 1) ≡ quads_test f n m
  unfolding first_of below_test quads_test
  tests_of_grid m = ap (first_of cells_below 0) (add-one m) ∙ first_shifted cells_below (λ (j : ℕ). first_of (quad_tests f n j) 0 n) cells_at 0 m

  quads_at : (j : ℕ) → grid_part Quads f n (suc j) ≡ concat_tabulate (row_quads f n j) 0 n
  unfolding row_part
  quads_at j =
      let e : suc j - 1 ≡ j = omega arith in
      ap (λ (i : ℕ). quads_between (row_points (f i) n) (row_points (f (suc j)) n) n) e
      ∙ ap (λ (i : ℕ). quads_between (row_points (f j) n) (row_points (f i) n) n) (sym (add-one j))
      ∙ quads_of_rows f n j

  nodes_at : (j : ℕ) → grid_part Nodes f n j ≡ concat_tabulate (λ (i : ℕ). node_values (node (f j i))) 0 (n + 1)
  unfolding row_part
  nodes_at j = nodes_of_row (f j) n

  pub parts_of_grid : (layout : Layout) (m : ℕ) → concat_tabulate (grid_part layout f n) 0 (m + 1) ≡ grid_values layout f n m
  unfolding row_part grid_values
  parts_of_grid Quads m =
      ap (concat_tabulate (grid_part Quads f n) 0) (add-one m)
      ∙ concat_shifted (grid_part Quads f n) (λ (j : ℕ). concat_tabulate (row_quads f n j) 0 n) quads_at 0 m
  parts_of_grid Nodes m =
      concat_same (grid_part Nodes f n) (λ (j : ℕ). concat_tabulate (λ (i : ℕ). node_values (node (f j i))) 0 (n + 1)) 0 (m + 1) (λ j h. nodes_at j)

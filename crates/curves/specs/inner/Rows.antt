-- The rows of a grid as the code goes over them, two at a time; and what they leave in the output before a refusal clears it. That
-- they hold the grid's own points and quads is proofs/rows/Whole. No public promise cites these. Assumes nothing.
use Rattle.std.specs.Prelude.{◌≡◌, List, [], ℕ, zero, suc, ◌+◌, ◌-◌, ◌*◌, ◌≤◌, T, length, get_or, Float}
use Rattle.base.specs.declared.verdict.Verdict.{Verdict}
use Rattle.base.specs.Refusal.{passed, is_passed}
use Rattle.base.specs.Buffers.{tabulate, concat_tabulate, splice}
use Rattle.base.specs.Tests.{first_of}
use Rattle.curves.specs.Point.{no_point}
use Rattle.curves.specs.Quad.{quad_test}
use Rattle.curves.specs.Grid.{PointRow, Grid, node, row_test, grid_test, area_test, corner_values, node_values}
use Rattle.curves.specs.Limits.{max_cells}
use Rattle.curves.specs.declared.point.Point.{Point}
use Rattle.curves.specs.declared.quad.Quad.{Quad}
use Rattle.curves.specs.declared.rows.Layout.{Layout}
use Rattle.curves.specs.declared.rows.Layout.TheVariants.{Quads, Nodes}

-- ---- a row of points

-- the n + 1 points of a row
unfoldable pub row_points : PointRow → ℕ → List Point
row_points f n = tabulate (λ (i : ℕ). node (f i)) 0 (n + 1)

-- the point i of a row
abbrev pub point_in : List Point → ℕ → Point
point_in row i = get_or row i no_point

-- ---- the tests of two rows

-- the quad i between two rows of points
abbrev pub cell : List Point → List Point → ℕ → Quad
cell low high i = record {
  lower_left = point_in low i;
  lower_right = point_in low (i + 1);
  upper_right = point_in high (i + 1);
  upper_left = point_in high i;
}

-- 25 of it, as that of row j
unfoldable pub cell_test : List Point → List Point → ℕ → ℕ → Verdict
unfolding quad_test
cell_test low high j i = area_test (cell low high i) i j

-- 25 along row j
unfoldable pub cells_test : List Point → List Point → ℕ → ℕ → Verdict
unfolding first_of cell_test
cells_test low high n j = first_of (cell_test low high j) 0 n

-- once row j of the points is there: 25 of the cells below it
unfoldable pub below_test : List Point → List Point → ℕ → ℕ → Verdict
unfolding cells_test
below_test low high n zero = passed
below_test low high n (suc j) = cells_test low high n j

-- no cell between two rows is refused, whichever row it is
abbrev pub AllSound : List Point → List Point → ℕ → Type 0
AllSound low high n = (j : ℕ) → cells_test low high n j ≡ passed

-- ---- what a row adds to the output

-- the n quads between two rows of points
unfoldable pub quads_between : List Point → List Point → ℕ → List Float
quads_between low high n = concat_tabulate (λ (i : ℕ). corner_values (cell low high i)) 0 n

-- the n + 1 points of a row
unfoldable pub nodes_of : List Point → ℕ → List Float
nodes_of row n = concat_tabulate (λ (i : ℕ). node_values (point_in row i)) 0 (n + 1)

-- what is written once row j of the points is there, after the row below it
unfoldable pub row_part : Layout → List Point → List Point → ℕ → ℕ → List Float
unfolding quads_between nodes_of
row_part Quads low high n zero = []
row_part Quads low high n (suc j) = quads_between low high n
row_part Nodes low high n j = nodes_of high n

-- the same of a grid's rows
abbrev pub grid_part : Layout → Grid → ℕ → ℕ → List Float
grid_part layout f n j = row_part layout (row_points (f (j - 1)) n) (row_points (f j) n) n j

-- how many values row j of the points adds
unfoldable pub row_size : Layout → ℕ → ℕ → ℕ
row_size Quads n zero = 0
row_size Quads n (suc j) = 8 * n
row_size Nodes n j = 3 * (n + 1)

-- ---- what the functions of a row ask

-- two rows of n + 1 points, of which the upper one is row j
pub record TwoRows (low high : List Point) (n j : ℕ) : Type 0 where
  pub cells : n ≤ max_cells
  pub index : j ≤ max_cells
  pub low_long : n + 1 ≤ length low
  pub high_long : n + 1 ≤ length high

-- room for the n quads between two rows, from an index on
pub record QuadsRoom (low high : List Point) (n from : ℕ) (out : List Float) : Type 0 where
  pub low_long : n + 1 ≤ length low
  pub high_long : n + 1 ≤ length high
  pub room : from + 8 * n ≤ length out

-- room for the n + 1 points of a row, from an index on
pub record NodesRoom (row : List Point) (n from : ℕ) (out : List Float) : Type 0 where
  pub long : n + 1 ≤ length row
  pub room : from + 3 * (n + 1) ≤ length out

-- two rows, and room for what the upper one adds
pub record RowRoom (layout : Layout) (low high : List Point) (n j from : ℕ) (out : List Float) : Type 0 where
  pub rows : TwoRows low high n j
  pub room : from + length (row_part layout low high n j) ≤ length out

-- ---- and what they tell

-- the answer to the n + 1 points of a row, which are there once none is refused
pub record RowFilled (f : PointRow) (n : ℕ) (row : List Point) (v : Verdict) : Type 0 where
  pub told : v ≡ row_test f n
  pub written : T (is_passed v) → row ≡ row_points f n

-- the answer to the cells below row j, and what that row adds
pub record RowLaid (layout : Layout) (low high : List Point) (n j from : ℕ) (before after : List Float) (v : Verdict) : Type 0 where
  pub told : v ≡ below_test low high n j
  pub written : after ≡ splice before from (row_part layout low high n j)

-- the answer to a grid, and what its rows leave: the parts of the lowest ones are written; of all of them, if the grid passes
pub record Laid (layout : Layout) (f : Grid) (n m : ℕ) (before after : List Float) (v : Verdict) : Type 0 where
  pub told : v ≡ grid_test f n m
  pub rows : ℕ
  pub up_to : rows ≤ m + 1
  pub all : T (is_passed v) → rows ≡ m + 1
  pub written : after ≡ splice before 0 (concat_tabulate (grid_part layout f n) 0 rows)

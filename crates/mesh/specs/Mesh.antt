-- A tile's mesh: "x, y, +0.0 for each grid point, rows from the bottom, and four point indices (32 bits) for each quad, counter-clockwise from its lower left". Assumes nothing.
use Rattle.std.specs.Prelude.{Bool, Result, ◌&&◌, cond, List, [], ◌∷◌, ℕ, ◌+◌, ◌*◌, length, leb, ltb, Float}
use Rattle.base.specs.declared.verdict.Verdict.{Verdict}
use Rattle.base.specs.Refusal.{is_passed}
use Rattle.base.specs.Buffers.{tabulate, concat_tabulate, splice}
use Rattle.curves.specs.Coons.{Outcome, outcome_of, coons_curves_beside, coons_nodes_beside}
use Rattle.base.specs.declared.refusal.Refusal.{Refusal}

-- what a call answers, with the points that it leaves as the output of the grid; and the indices that it leaves
pub record Mesh : Type 0 where
  pub grid : Outcome
  pub cells : List ℕ

unfoldable pub mesh_of : Result ℕ Refusal → List Float → List ℕ → Mesh
unfolding outcome_of
mesh_of answer points cells = record { grid = outcome_of answer points; cells = cells }

-- ---- the indices, of n by m cells

-- 000's `grid_index`: the point i of row j
abbrev pub grid_index : ℕ → ℕ → ℕ → ℕ
grid_index n i j = j * (n + 1) + i

-- "counter-clockwise from its lower left"
unfoldable pub cell : ℕ → ℕ → ℕ → List ℕ
cell n j i = grid_index n i j ∷ grid_index n (i + 1) j ∷ grid_index n (i + 1) (j + 1) ∷ grid_index n i (j + 1) ∷ []

unfoldable pub row_cells : ℕ → ℕ → List ℕ
unfolding cell
row_cells n j = concat_tabulate (cell n j) 0 n

unfoldable pub mesh_cells : ℕ → ℕ → List ℕ
unfolding row_cells
mesh_cells n m = concat_tabulate (row_cells n) 0 m

abbrev pub needed_cells : ℕ → ℕ → ℕ
needed_cells n m = 4 * (m * n)

-- "Point indices become 0 where coordinates become +0.0."
abbrev pub no_cells : ℕ → List ℕ
no_cells k = tabulate (λ (i : ℕ). 0) 0 k

-- 23 to 25: "needed output +0.0"
abbrev pub zeroes : Verdict → Bool
zeroes v = leb 23 v.number && leb v.number 25

-- what a grid's verdict leaves of the indices lent
unfoldable pub cells_left : Verdict → ℕ → ℕ → List ℕ → List ℕ
unfolding mesh_cells
cells_left v n m cells =
    cond (is_passed v) (splice cells 0 (mesh_cells n m))
    (cond (zeroes v) (splice cells 0 (no_cells (needed_cells n m))) cells)

-- ---- 000's `mesh_tile_curves`

-- the grid decides, in a chain of tests in which 11 stands for either output: too few values for the points, or too few for the indices
unfoldable pub mesh_tile_curves : List Float → List Float → List Float → List Float → ℕ → ℕ → List Float → List ℕ → Mesh
unfolding cells_left coons_curves_beside
mesh_tile_curves bottom right top left n m points cells =
    let o = coons_nodes_beside (ltb (length cells) (needed_cells n m)) bottom right top left n m points in
    record { grid = o; cells = cells_left o.verdict n m cells }

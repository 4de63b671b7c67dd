-- What the functions that write indices are lent. Assumes nothing.
use Rattle.std.specs.Prelude.{List, ℕ, ◌+◌, ◌*◌, ◌≤◌, ◌<◌, length}
use Rattle.curves.specs.Limits.{max_cells}
use Rattle.mesh.specs.Mesh.{needed_cells}

-- room for the n cells of row j, from an index on
pub record RowGiven (n j from : ℕ) (cells : List ℕ) : Type 0 where
  pub few : n ≤ max_cells
  pub row : j < max_cells
  pub room : from + 4 * n ≤ length cells

-- room for the cells of m rows of n
pub record CellsGiven (n m : ℕ) (cells : List ℕ) : Type 0 where
  pub few : n ≤ max_cells
  pub rows : m ≤ max_cells
  pub room : needed_cells n m ≤ length cells

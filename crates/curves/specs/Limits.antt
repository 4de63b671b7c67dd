-- 01's limits of the geometry. Assumes nothing.
use Rattle.std.specs.Prelude.{ℕ, ◌*◌}

-- "Curves hold at most 1,024 points", "lent as x, y in turn"
abbrev pub max_curve : ℕ
max_curve = 2 * 1024

-- "Seams hold at most 1,025 values, n_u and n_v at most 1,024"
abbrev pub max_seam : ℕ
max_seam = 1025

abbrev pub max_cells : ℕ
max_cells = 1024

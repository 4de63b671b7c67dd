-- 000's functions on a tile given by a closed loop of points: "Geometry: 1, 12, 26, curve by curve 13 to 15, ..". Assumes nothing.
use Rattle.std.specs.Prelude.{◌||◌, List, ℕ, ltb, Float}
use Rattle.base.specs.declared.verdict.Verdict.{Verdict}
use Rattle.base.specs.Refusal.{refused, refuse_if}
use Rattle.base.specs.Tests.{if_passed}
use Rattle.base.specs.Answers.{Answer, good, turned_away}
use Rattle.curves.specs.Coons.{Outcome, refusal, coons_quads}
use Rattle.mesh.specs.declared.boundary.Pieces.{Pieces}
use Rattle.mesh.specs.Loop.{from_loop, piece}
use Rattle.mesh.specs.Mesh.{Mesh, mesh_tile_curves}
use Rattle.curves.specs.Limits.{max_cells}

-- "n_u and n_v at most 1,024": 1, which comes before 12
unfoldable pub cell_limits_test : ℕ → ℕ → Verdict
cell_limits_test n m = refuse_if (ltb max_cells n || ltb max_cells m) (refused 1 0 0)

-- "1, 12", or the four curves; the tests from 26 on are theirs
unfoldable pub tile_loop : List Float → ℕ → ℕ → Answer Pieces
unfolding cell_limits_test from_loop
tile_loop boundary n m = if_passed (cell_limits_test n m) (from_loop boundary) turned_away

-- what the four curves of a loop give, or what its refusal gives
abbrev pub by_curves : {A : Type 0} → Answer Pieces → List Float → (List Float → List Float → List Float → List Float → A) → (Verdict → A) → A
by_curves (good p) points f refusal = f (piece p points 0) (piece p points 1) (piece p points 2) (piece p points 3)
by_curves (turned_away v) points f refusal = refusal v

unfoldable pub coons_checked : List Float → ℕ → ℕ → List Float → Outcome
unfolding tile_loop piece
coons_checked boundary n m out =
    by_curves (tile_loop boundary n m) boundary (λ (b r t l : List Float). coons_quads b r t l n m out) (refusal out)

unfoldable pub mesh_tile : List Float → ℕ → ℕ → List Float → List ℕ → Mesh
unfolding tile_loop piece mesh_tile_curves
mesh_tile boundary n m points cells =
    by_curves (tile_loop boundary n m) boundary (λ (b r t l : List Float). mesh_tile_curves b r t l n m points cells)
    (λ (v : Verdict). record { grid = refusal points v; cells = cells })

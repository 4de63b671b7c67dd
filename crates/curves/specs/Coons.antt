-- What the public functions of the grid answer, and what they leave in the lent output, refused calls included: a chain of tests in 01's order,
-- then the grid. Assumes nothing.
use Rattle.std.specs.Prelude.{Bool, false, not, ◌||◌, List, ℕ, ◌*◌, ◌%◌, length, ltb, eqb, Float, Result, Ok, Err}
use Rattle.base.specs.declared.verdict.Verdict.{Verdict}
use Rattle.base.specs.declared.refusal.Refusal.{Refusal}
use Rattle.base.specs.Refusal.{passed, refused, verdict_of, then_test, refuse_if}
use Rattle.base.specs.Buffers.{splice}
use Rattle.base.specs.Tests.{if_passed}
use Rattle.curves.specs.Boundary.{BoundaryCurves, boundary_of, checked_curves}
use Rattle.curves.specs.Seam.{uniform_parameters, seams_test}
use Rattle.curves.specs.Quad.{zeros}
use Rattle.curves.specs.Grid.{Seams, seams, n_u, n_v, Grid, grid_of, grid_test, grid_values, needed}
use Rattle.curves.specs.declared.rows.Layout.{Layout}
use Rattle.curves.specs.declared.rows.Layout.TheVariants.{Quads, Nodes}
use Rattle.curves.specs.Limits.{max_curve, max_seam, max_cells}

-- "a grid, a lay and a mesh answer the number of quads", or the refusal; and the output that they leave
pub record Outcome : Type 0 where
  pub verdict : Verdict
  pub quads : ℕ
  pub out : List Float

unfoldable pub outcome_of : Result ℕ Refusal → List Float → Outcome
unfolding verdict_of
outcome_of (Ok quads) out = record { verdict = passed; quads = quads; out = out }
outcome_of (Err r) out = record { verdict = verdict_of r; quads = 0; out = out }

abbrev pub refusal : List Float → Verdict → Outcome
refusal out v = record { verdict = v; quads = 0; out = out }

-- a refusal that "leaves all", or what follows
abbrev pub unless : Verdict → List Float → Outcome → Outcome
unless v out rest = if_passed v rest (refusal out)

-- ---- the grid

-- "lines parallel; crossing outside" and "quad area": "needed output +0.0". "Output past the needed part is untouched."
unfoldable pub filled : Layout → Grid → ℕ → ℕ → List Float → Outcome
unfolding grid_test grid_values needed
filled layout f n m out =
    if_passed (grid_test f n m) (record { verdict = passed; quads = m * n; out = splice out 0 (grid_values layout f n m) })
    (refusal (splice out 0 (zeros (needed layout n m))))

-- A mesh is lent a second output beside this one, for its indices. So what is named `.._beside` takes whether a second output is too short; the same
-- name without the word is for a call that is lent none.

-- "seams (..), 22, 11": the tests between the curves' and the grid's
unfoldable pub seams_and_room_test : Bool → Layout → Seams → ℕ → Verdict
unfolding seams_test needed
seams_and_room_test short layout s room =
    then_test (seams_test s.bottom s.top s.left s.right) (refuse_if (short || ltb room (needed layout (n_u s) (n_v s))) (refused 11 0 0))

unfoldable pub grid_stage_beside : Bool → Layout → BoundaryCurves → Seams → List Float → Outcome
unfolding seams_and_room_test filled
grid_stage_beside short layout c s out =
    unless (seams_and_room_test short layout s (length out)) out (filled layout (grid_of c s) (n_u s) (n_v s) out)

unfoldable pub grid_stage : Layout → BoundaryCurves → Seams → List Float → Outcome
unfolding grid_stage_beside
grid_stage = grid_stage_beside false

-- "curve by curve 13 to 15, 16, 17", then the rest
unfoldable pub patch_beside : Bool → Layout → List Float → List Float → List Float → List Float → Seams → List Float → Outcome
unfolding checked_curves grid_stage_beside
patch_beside short layout bottom right top left s out =
    unless (checked_curves bottom right top left) out (grid_stage_beside short layout (boundary_of bottom right top left) s out)

unfoldable pub patch : Layout → List Float → List Float → List Float → List Float → Seams → List Float → Outcome
unfolding patch_beside grid_stage
patch = patch_beside false

-- ---- 1: "a limit above exceeded, or a broken record or list"

-- "at most 1,024 points, lent as x, y in turn; an odd number of values is broken"
unfoldable pub curve_limit : List Float → Verdict
curve_limit points = refuse_if (ltb max_curve (length points) || not (eqb (length points % 2) 0)) (refused 1 0 0)

unfoldable pub curves_limit : List Float → List Float → List Float → List Float → Verdict
unfolding curve_limit
curves_limit bottom right top left =
    then_test (curve_limit bottom) (then_test (curve_limit right) (then_test (curve_limit top) (curve_limit left)))

-- "Seams hold at most 1,025 values"
unfoldable pub seam_limit : List Float → Verdict
seam_limit values = refuse_if (ltb max_seam (length values)) (refused 1 0 0)

unfoldable pub seams_limit : Seams → Verdict
unfolding seam_limit
seams_limit s = then_test (seam_limit s.bottom) (then_test (seam_limit s.top) (then_test (seam_limit s.left) (seam_limit s.right)))

-- ---- the public functions

-- 000's `coons_from_parameters`
unfoldable pub coons_from_parameters_beside : Bool → Layout → List Float → List Float → List Float → List Float → Seams → List Float → Outcome
unfolding curves_limit seams_limit patch_beside
coons_from_parameters_beside short layout bottom right top left s out =
    unless (then_test (curves_limit bottom right top left) (seams_limit s)) out (patch_beside short layout bottom right top left s out)

unfoldable pub coons_from_parameters : Layout → List Float → List Float → List Float → List Float → Seams → List Float → Outcome
unfolding coons_from_parameters_beside patch
coons_from_parameters = coons_from_parameters_beside false

-- its quads by name
abbrev pub coons_seamed : List Float → List Float → List Float → List Float → Seams → List Float → Outcome
coons_seamed = coons_from_parameters Quads

-- "n_u and n_v at most 1,024": 1; "n_u or n_v zero": 26
unfoldable pub cells_limit : ℕ → ℕ → Verdict
cells_limit n m =
    then_test (refuse_if (ltb max_cells n || ltb max_cells m) (refused 1 0 0)) (refuse_if (eqb n 0 || eqb m 0) (refused 26 0 0))

-- even seams: the same on opposite sides
abbrev pub even_seams : ℕ → ℕ → Seams
even_seams n m = seams (uniform_parameters n) (uniform_parameters n) (uniform_parameters m) (uniform_parameters m)

-- 000's `coons_curves`: `coons_from_parameters` on even seams
unfoldable pub coons_curves_beside : Bool → Layout → List Float → List Float → List Float → List Float → ℕ → ℕ → List Float → Outcome
unfolding curves_limit cells_limit uniform_parameters coons_from_parameters_beside
coons_curves_beside short layout bottom right top left n m out =
    unless (then_test (curves_limit bottom right top left) (cells_limit n m)) out
    (coons_from_parameters_beside short layout bottom right top left (even_seams n m) out)

unfoldable pub coons_curves : Layout → List Float → List Float → List Float → List Float → ℕ → ℕ → List Float → Outcome
unfolding coons_curves_beside coons_from_parameters
coons_curves = coons_curves_beside false

-- its two layouts by name: the quads, and the points for a mesh
abbrev pub coons_quads : List Float → List Float → List Float → List Float → ℕ → ℕ → List Float → Outcome
coons_quads = coons_curves Quads

abbrev pub coons_nodes : List Float → List Float → List Float → List Float → ℕ → ℕ → List Float → Outcome
coons_nodes = coons_curves Nodes

-- the points, where the indices have an output of their own
abbrev pub coons_nodes_beside : Bool → List Float → List Float → List Float → List Float → ℕ → ℕ → List Float → Outcome
coons_nodes_beside short = coons_curves_beside short Nodes

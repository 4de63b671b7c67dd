-- `tile::mesh_tile` meets its contract: the loop falls into four curves, or it is refused. Assumes nothing.
use Rattle.std.proofs.Common.{◌∙◌, List, ◌≤◌, length, arith}
use lib.Ieee.{Float}
use Rattle.std.proofs.lemmas.Result.{err_from_is_err_and}
use Rattle.curves.specs.Coons.{outcome_of}
use Rattle.mesh.specs.Mesh.{mesh_of, mesh_tile_curves}
use Rattle.mesh.proofs.boundary.Laws.{eight_values, pieces_in}
use Rattle.mesh.proofs.tile.Laws.{held, mesh_by, mesh_refused, in_four_curves}
use Rattle.mesh.proofs.tile.mesh_tile.Goals as goal
use Rattle.mesh.proofs.tile.mesh_tile.Goals.{In_ok-pieces}

pub returns-in_err-pieces : goal.returns-in_err-pieces
unfolding outcome_of mesh_of
returns-in_err-pieces c =
    let a = c.args in
    let p = err_from_is_err_and c.from_residual.result c.from_residual.ensures.1 in
    rw (p.1, p.2) (mesh_refused a.boundary.now a.n_u a.n_v c.in_err-pieces.ensures a.points.now a.cells.now)

enough : (c : In_ok-pieces) → 8 ≤ length c.args.boundary.now
enough c = eight_values c.args.boundary.now _ (held c.args.boundary.now c.args.n_u c.args.n_v c.in_ok-pieces.ensures)

pub bounds-boundary-6 : goal.bounds-boundary-6
bounds-boundary-6 c = omega (arith, enough (goal.at.bounds-boundary-6 c).In_ok-pieces)

pub bounds-boundary-7 : goal.bounds-boundary-7
bounds-boundary-7 c = omega (arith, enough (goal.at.bounds-boundary-7 c).In_ok-pieces)

pub bounds-boundary-0 : goal.bounds-boundary-0
bounds-boundary-0 c = omega (arith, enough (goal.at.bounds-boundary-0 c).In_ok-pieces)

pub bounds-boundary-1 : goal.bounds-boundary-1
bounds-boundary-1 c = omega (arith, enough (goal.at.bounds-boundary-1 c).In_ok-pieces)

pub curves-requires : goal.curves-requires
curves-requires c = pieces_in c.args.boundary.now _ (held c.args.boundary.now c.args.n_u c.args.n_v c.in_ok-pieces.ensures)

pub returns : goal.returns
returns c =
    let a = c.args in
    let s = c.curves.ensures in
    c.mesh_tile_curves.ensures
    ∙ in_four_curves (λ (b r t l : List Float). mesh_tile_curves b r t l a.n_u a.n_v a.points.now a.cells.now) _ _ _ _ _ _ _ _ s.bottom_is s.right_is s.top_is s.left_is
    ∙ mesh_by a.boundary.now a.n_u a.n_v c.in_ok-pieces.ensures a.points.now a.cells.now

-- `tile::coons_checked` meets its contract: the loop falls into four curves, or it is refused. Assumes nothing.
use Rattle.std.proofs.Common.{◌∙◌, List, ◌≤◌, length, arith}
use lib.Ieee.{Float}
use Rattle.std.proofs.lemmas.Result.{err_from_is_err_and}
use Rattle.curves.specs.Coons.{outcome_of, coons_quads}
use Rattle.mesh.proofs.boundary.Laws.{eight_values, pieces_in}
use Rattle.mesh.proofs.tile.Laws.{held, quads_by, quads_refused, in_four_curves}
use Rattle.mesh.proofs.tile.coons_checked.Goals as goal
use Rattle.mesh.proofs.tile.coons_checked.Goals.{In_ok-pieces}

pub returns-in_err-pieces : goal.returns-in_err-pieces
unfolding outcome_of
returns-in_err-pieces c =
    let a = c.args in
    let p = err_from_is_err_and c.from_residual.result c.from_residual.ensures.1 in
    rw (p.1, p.2) (quads_refused a.boundary.now a.n_u a.n_v c.in_err-pieces.ensures a.out.now)

enough : (c : In_ok-pieces) → 8 ≤ length c.args.boundary.now
enough c = eight_values c.args.boundary.now _ (held c.args.boundary.now c.args.n_u c.args.n_v c.in_ok-pieces.ensures)

pub bounds-boundary-6 : goal.bounds-boundary-6
bounds-boundary-6 c = omega (arith, enough (goal.at.bounds-boundary-6 c).In_ok-pieces)

pub bounds-boundary-7 : goal.bounds-boundary-7
bounds-boundary-7 c = omega (arith, enough (goal.at.bounds-boundary-7 c).In_ok-pieces)

pub bounds-boundary-0 : goal.bounds-boundary-0
bounds-boundary-0 c = omega (arith, enough (goal.at.bounds-boundary-0 c).In_ok-pieces)

pub bounds-boundary-1 : goal.bounds-boundary-1
bounds-boundary-1 c = omega (arith, enough (goal.at.bounds-boundary-1 c).In_ok-pieces)

pub curves-requires : goal.curves-requires
curves-requires c = pieces_in c.args.boundary.now _ (held c.args.boundary.now c.args.n_u c.args.n_v c.in_ok-pieces.ensures)

pub returns : goal.returns
returns c =
    let a = c.args in
    let s = c.curves.ensures in
    c.coons_curves.ensures
    ∙ in_four_curves (λ (b r t l : List Float). coons_quads b r t l a.n_u a.n_v a.out.now) _ _ _ _ _ _ _ _ s.bottom_is s.right_is s.top_is s.left_is
    ∙ quads_by a.boundary.now a.n_u a.n_v c.in_ok-pieces.ensures a.out.now

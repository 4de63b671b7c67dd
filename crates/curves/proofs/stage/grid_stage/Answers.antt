-- `stage::grid_stage` meets its contract: the seams are refused, or the room, or there is the grid. Assumes nothing.
use Rattle.std.proofs.Common.{◌≤◌, length, arith}
use Rattle.curves.specs.Grid.{n_u, n_v, needed}
use Rattle.curves.specs.inner.Curves.{curves_of}
use Rattle.curves.specs.inner.Grids.{lent_seams, PairedSeams}
use Rattle.curves.proofs.stage.Laws.{seams_paired, bad_seams, no_room, grid_made, grid_refused}
use Rattle.curves.proofs.stage.grid_stage.Goals as goal
use Rattle.curves.proofs.stage.grid_stage.Goals.{Else-out-needed, In_ok-check_seams}

paired : (c : In_ok-check_seams) → PairedSeams (lent_seams c.args.seams)
paired c = seams_paired c.requires.short c.in_ok-check_seams.ensures

room : (c : Else-out-needed) → let s = lent_seams c.args.seams in needed c.args.layout (n_u s) (n_v s) ≤ length c.args.out.now
room c = omega (arith, c.if-out-needed.false, c.needed.ensures)

pub returns-in_err-check_seams : goal.returns-in_err-check_seams
returns-in_err-check_seams c =
    let a = c.args in
    bad_seams a.layout (curves_of a.patch.now) (lent_seams a.seams) a.out.now _ _ c.from_residual.ensures.1 c.in_err-check_seams.ensures

pub overflow_sub-n_u : goal.overflow_sub-n_u
overflow_sub-n_u c = omega (arith, paired (goal.at.overflow_sub-n_u c).In_ok-check_seams)

pub overflow_sub-n_v : goal.overflow_sub-n_v
overflow_sub-n_v c = omega (arith, paired (goal.at.overflow_sub-n_v c).In_ok-check_seams)

pub returns-then-out-needed : goal.returns-then-out-needed
returns-then-out-needed c =
    let a = c.args in
    no_room a.layout (curves_of a.patch.now) (lent_seams a.seams) a.out.now c.in_ok-check_seams.ensures (omega (arith, c.if-out-needed.true, c.needed.ensures))

pub coons_grid-requires : goal.coons_grid-requires
coons_grid-requires c =
    let given = c.requires in
    record {
      paired = paired (goal.at.coons_grid-requires c).In_ok-check_seams;
      workspace = given.workspace;
      room = room (goal.at.coons_grid-requires c).Else-out-needed;
    }

pub returns-in_err-coons_grid : goal.returns-in_err-coons_grid
returns-in_err-coons_grid c =
    let a = c.args in
    grid_refused a.layout (curves_of a.patch.now) (lent_seams a.seams) a.out.now c.in_ok-check_seams.ensures
    (room (goal.at.returns-in_err-coons_grid c).Else-out-needed) _ _ c.from_residual-in_err-coons_grid.ensures.1 c.in_err-coons_grid.ensures

pub returns : goal.returns
returns c =
    let a = c.args in
    grid_made a.layout (curves_of a.patch.now) (lent_seams a.seams) a.out.now c.in_ok-check_seams.ensures (room (goal.at.returns c).Else-out-needed)
    c.in_ok-coons_grid.ensures

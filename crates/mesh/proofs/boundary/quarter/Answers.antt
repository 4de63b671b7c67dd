-- `boundary::quarter` meets its contract. Assumes nothing.
use Prim.Native.Nat.{◌+◌, ◌*◌, ◌≤◌}
use native.Mathlib.Omega.{arith}
use lib.ListN.{length}
use Rattle.mesh.proofs.boundary.Laws.{quarter_fits, quarter_lent}
use Rattle.mesh.proofs.boundary.quarter.Goals as goal
use Rattle.mesh.proofs.boundary.quarter.Goals.{Start}

within : (c : Start) → let a = c.args in 2 * (a.k * a.n) + 2 * a.n ≤ length a.points.now
within c = quarter_fits c.args.points.now _ _ c.requires.0 c.requires.1

pub overflow_mul-start : goal.overflow_mul-start
overflow_mul-start c = omega (arith, within (goal.at.overflow_mul-start c).Start)

pub overflow_mul-start-2 : goal.overflow_mul-start-2
overflow_mul-start-2 c = omega (arith, within (goal.at.overflow_mul-start-2 c).Start)

pub overflow_add-end : goal.overflow_add-end
overflow_add-end c = omega (arith, within (goal.at.overflow_add-end c).Start)

pub offset_bounds-points-start : goal.offset_bounds-points-start
offset_bounds-points-start c = omega (arith, within (goal.at.offset_bounds-points-start c).Start)

pub slice_bounds-result-end : goal.slice_bounds-result-end
slice_bounds-result-end c = omega (arith, within (goal.at.slice_bounds-result-end c).Start)

pub returns : goal.returns
returns c = quarter_lent c.args.points.now c.args.n c.args.k

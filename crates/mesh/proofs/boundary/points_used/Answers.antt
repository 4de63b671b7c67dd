-- `boundary::points_used` meets its contract. Assumes nothing.
use Rattle.mesh.proofs.boundary.Laws.{under_five, other_x, other_y, closing_point}
use Rattle.mesh.proofs.boundary.points_used.Goals as goal
use Rattle.mesh.proofs.boundary.points_used.Goals.{
  else-points-last-via-then-points-last+else-points-last-2 as y_differs,
  else-points-last-via-else-points-last as x_differs,
}

pub returns-then-n-lt5 : goal.returns-then-n-lt5
returns-then-n-lt5 c = under_five _ c.if-n-lt5.true

pub returns-then-points-last-2 : goal.returns-then-points-last-2
returns-then-points-last-2 c = closing_point _ c.if-n-lt5.false c.if-points-last.true c.if-points-last-2.true

pub returns : goal.returns
returns c =
    elim c.else-points-last.branch [
      | y_differs w ↦ other_y _ c.if-n-lt5.false w.if-points-last.true w.if-points-last-2.false
      | x_differs w ↦ other_x _ c.if-n-lt5.false w.if-points-last.false
    ]

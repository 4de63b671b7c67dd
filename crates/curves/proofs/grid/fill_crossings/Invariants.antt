use Rattle.curves.specs.Grid.{crossings}
use Rattle.curves.specs.inner.Grids.{row_cells}
use Rattle.curves.proofs.grid.Laws.{Begun}
use Rattle.curves.proofs.grid.fill_crossings.Given as goal

abbrev pub invariant-loop-i : goal.invariant-loop-i
invariant-loop-i l = Begun (crossings l.seam0 l.seam2 l.v0 l.v1 l.j) (row_cells l.seam0) l.i l.row

-- `grid::coons_grid` meets its contract. Assumes nothing.
use Rattle.curves.proofs.grid.Filled.{gridded}
use Rattle.curves.proofs.grid.coons_grid.Goals as goal

pub returns : goal.returns
returns c = gridded _ c.grid_rows-answer.ensures c.requires.room c.clear_refused.ensures

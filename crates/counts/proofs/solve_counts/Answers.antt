-- `counts::solve_counts` meets its contract: an ideal is a range whose ends are equal. Assumes nothing.
use mathlib.Core.Path.{◌∙◌}
use Rattle.counts.proofs.EqualEnds.{solve_same}
use Rattle.counts.proofs.solve_counts.Goals as goal

pub returns : goal.returns
returns c = c.solve_counts_within.ensures ∙ solve_same _ _ _ _

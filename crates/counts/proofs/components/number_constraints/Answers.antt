-- `components::number_constraints` meets its contract. Invariant: the length. Measure: the constraints that are left. Assumes nothing.
use mathlib.Core.Path.{◌∙◌}
use lib.ListN.{length-set}
use Rattle.counts.proofs.components.number_constraints.Goals as goal

pub loop-i-preserved : goal.loop-i-preserved
loop-i-preserved c = length-set c.loop-i.marks c.loop-i.i _ ∙ c.loop-i.invariant

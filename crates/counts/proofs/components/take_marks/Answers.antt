-- `components::take_marks` meets its contract. Invariant: the edges below e have their marks. Measure: the edges that are left. Assumes nothing.
use native.Mathlib.Omega.{arith}
use Rattle.counts.proofs.components.Laws.{taken_more}
use Rattle.counts.proofs.components.take_marks.Goals as goal

pub loop-e-init : goal.loop-e-init
loop-e-init c = record { long = c.requires.long; taken = λ x l. absurd (omega arith) }

pub loop-e-preserved : goal.loop-e-preserved
loop-e-preserved c = taken_more c.loop-e.invariant (omega arith) c.label_of.ensures

pub returns : goal.returns
returns c = record { taken = λ x l. c.loop-e.invariant.taken x (omega arith) }

-- `components::join_constraints` meets its contract. Invariant: the constraints of the edges below e have one mark. Measure: the edges that are left.
-- Assumes nothing.
use native.Mathlib.Omega.{arith}
use Rattle.counts.proofs.components.Laws.{join_more}
use Rattle.counts.proofs.components.join_constraints.Goals as goal

pub loop-e-init : goal.loop-e-init
loop-e-init c = record { long = c.requires.long; one_mark = λ x l. absurd (omega arith) }

pub join_at-requires : goal.join_at-requires
join_at-requires c = record { below = omega arith; long = c.loop-e.invariant.long }

pub loop-e-preserved : goal.loop-e-preserved
loop-e-preserved c = join_more c.loop-e.invariant c.join_at.ensures

pub returns : goal.returns
returns c = record { one_mark = λ x l. c.loop-e.invariant.one_mark x (omega arith) }

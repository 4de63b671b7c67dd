-- `components::rename` meets its contract. Invariant: marks below i are renamed, the others as they were. Measure: the marks that are left.
-- Assumes nothing.
use mathlib.Core.Path.{refl}
use native.Mathlib.Omega.{arith}
use Rattle.counts.proofs.components.Laws.{rename_more}
use Rattle.counts.proofs.components.rename.Goals as goal

pub loop-i-init : goal.loop-i-init
loop-i-init c = record { long = c.requires; done = λ k l. absurd (omega arith); rest = λ k l. refl }

pub loop-i-preserved : goal.loop-i-preserved
loop-i-preserved c = rename_more c.loop-i.invariant (omega arith) c.renamed.ensures

pub returns : goal.returns
returns c = record { long = c.loop-i.invariant.long; each_is = λ k l. c.loop-i.invariant.done k (omega arith) }

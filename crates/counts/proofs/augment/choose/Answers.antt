-- `augment::choose` meets its contract. Invariant: the choice is that among the first k starts. The measure is what is left of the starts.
-- Assumes nothing.
use native.Mathlib.Omega.{arith}
use Rattle.counts.specs.inner.RoundContract.{chosen}
use Rattle.counts.proofs.augment.Laws.{choose_turn, choose_done}
use Rattle.counts.proofs.augment.choose.Goals as goal

pub loop-k-init : goal.loop-k-init
unfolding chosen
loop-k-init c = record { is = rw c.infinity.ensures; winner_fits = omega arith; in_range = omega arith }

pub loop-k-preserved : goal.loop-k-preserved
loop-k-preserved c = choose_turn c.loop-k.invariant (omega arith) c.start_at-c.ensures c.weighed-out.ensures

pub returns : goal.returns
returns c = choose_done c.loop-k.invariant (omega arith)

-- `counts::cost::fill_costs` meets its contract. The loop's invariant: every edge before e has its four entries, and the arrays keep their lengths.
-- Assumes nothing.
use native.Mathlib.Omega.{arith}
use Rattle.counts.proofs.cost.Laws.{costs_more, costs_done, range_price}
use Rattle.counts.proofs.cost.fill_costs.Goals as goal

pub loop-e-init : goal.loop-e-init
loop-e-init c = record { entries = λ y l. absurd (omega arith); costs_long = c.requires.costs_long; allowed_long = c.requires.allowed_long }

pub set_costs-requires : goal.set_costs-requires
set_costs-requires c = record { below = omega arith; costs_long = c.loop-e.invariant.costs_long; allowed_long = c.loop-e.invariant.allowed_long }

pub loop-e-preserved : goal.loop-e-preserved
loop-e-preserved c =
    let price = range_price c.requires c.loop-e-test.true in
    costs_more (omega arith) price c.set_costs.ensures.0 c.set_costs.ensures.1 c.loop-e.invariant

pub returns : goal.returns
returns c = costs_done (omega arith) c.loop-e.invariant

-- `components::refresh_component` meets its contract. Invariant: the edges below e are refreshed. Measure: the edges that are left. Assumes nothing.
use native.Mathlib.Omega.{arith}
use Rattle.counts.proofs.cost.Laws.{range_price}
use Rattle.counts.proofs.components.Laws.{refresh_none, refresh_more, refresh_done}
use Rattle.counts.proofs.components.refresh_component.Goals as goal

pub loop-e-init : goal.loop-e-init
loop-e-init c =
    let sizes = c.requires.sizes in
    (refresh_none sizes.costs_long sizes.allowed_long c.requires.known_long, omega arith)

pub refresh_edge-requires : goal.refresh_edge-requires
refresh_edge-requires c =
    let r = c.loop-e.invariant.0 in
    record { sizes = record { below = omega arith; costs_long = r.costs_long; allowed_long = r.allowed_long }; known_long = r.known_long }

pub loop-e-preserved : goal.loop-e-preserved
loop-e-preserved c =
    let price = range_price c.requires.sizes c.loop-e-test.true in
    (refresh_more c.loop-e.invariant.0 (omega arith) price c.refresh_edge.ensures, omega arith)

pub returns : goal.returns
returns c = refresh_done c.loop-e.invariant.0 (omega arith)

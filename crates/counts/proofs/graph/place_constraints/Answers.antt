-- `place_constraints` meets its contract. The loop's invariant: the tables hold the first ci constraints. The measure is what is left of them.
-- Assumes nothing.
use native.Mathlib.Omega.{arith}
use Rattle.counts.proofs.graph.Placing.{filled_none, uses_few, counted_once}
use Rattle.counts.proofs.graph.Built.{constraint_more, constraints_done}
use Rattle.counts.proofs.graph.place_constraints.Goals as goal

pub loop-ci-init : goal.loop-ci-init
loop-ci-init c = filled_none c.requires.incident_empty c.requires.own_size c.requires.uses_zero

pub place_side-requires : goal.place_side-requires
place_side-requires c =
    let few = c.requires.tested.few in
    record {
      side = (c.requires.tested.pair_tested c.loop-ci.ci c.loop-ci-test.true).first;
      numbered = omega (arith, few);
      sized = c.loop-ci.invariant.sized;
      uses_few = λ y l. let u = uses_few c.loop-ci.ci c.loop-ci.invariant y l in omega (arith, u, few);
    }

pub place_side-requires-in-loop-ci : goal.place_side-requires-in-loop-ci
place_side-requires-in-loop-ci c =
    let few = c.requires.tested.few in
    let placed = c.place_side.ensures in
    record {
      side = (c.requires.tested.pair_tested c.loop-ci.ci c.loop-ci-test.true).second;
      numbered = omega (arith, few);
      sized = placed.sized;
      uses_few = λ y l.
          let u = uses_few c.loop-ci.ci c.loop-ci.invariant y l in
          let v = counted_once placed l in
          omega (arith, u, v, few);
    }

pub loop-ci-preserved : goal.loop-ci-preserved
loop-ci-preserved c = constraint_more c.requires.tested c.loop-ci-test.true c.loop-ci.invariant c.place_side.ensures c.place_side-in-loop-ci.ensures

pub returns : goal.returns
returns c = constraints_done c.loop-ci.ci c.args.regions.now (let t = c.loop-ci-test.false in omega (arith, t)) c.loop-ci.invariant

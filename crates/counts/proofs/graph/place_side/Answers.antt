-- `place_side` meets its contract. The loop's invariant: the first j edges of the side are placed. The measure is what is left of them.
-- Assumes nothing.
use Prim.Native.Nat.{◌+◌, ◌*◌}
use mathlib.Core.Path.{refl}
use native.Mathlib.Omega.{arith}
use Rattle.regions.specs.Region.{places, side_size}
use Rattle.counts.proofs.graph.Placing.{placed_none, not_counted}
use Rattle.counts.proofs.graph.Sides.{next_edge, side_more, side_done}
use Rattle.counts.proofs.graph.place_side.Goals as goal

pub loop-j-init : goal.loop-j-init
loop-j-init c = placed_none c.requires.sized

pub overflow_cast-e : goal.overflow_cast-e
overflow_cast-e c = omega (arith, c.type_inv.regions (c.args.s * side_size places + 1 + c.loop-j.j))

pub place_edge-requires : goal.place_edge-requires
place_edge-requires c =
    let x = next_edge c.requires.side c.loop-j-test.true refl in
    let u = not_counted c.loop-j.invariant x.inside x.fresh in
    let v = c.requires.uses_few _ x.inside in
    record {
      sized = c.loop-j.invariant.sized;
      numbered = c.requires.numbered;
      side_below = c.requires.side.numbered;
      edge_below = x.inside;
      uses_few = omega (arith, u, v);
    }

pub loop-j-preserved : goal.loop-j-preserved
loop-j-preserved c =
    let x = next_edge c.requires.side c.loop-j-test.true refl in
    side_more x c.loop-j.invariant c.place_edge.ensures

pub returns : goal.returns
returns c = side_done {j = c.loop-j.j} c.requires.side (let t = c.loop-j-test.false in omega (arith, t)) c.loop-j.invariant

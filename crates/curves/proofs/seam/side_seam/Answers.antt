-- `seam::side_seam` meets its contract. Before each turn so many values of the seam are written, and what is still to come is that of the
-- edges from i on. Assumes nothing.
use Rattle.std.proofs.Common.{◌≡◌, length, arith}
use Rattle.curves.proofs.seam.Laws.{seam_begins, edge_fits, next_edge, last_fits, seam_done}
use Rattle.curves.proofs.seam.side_seam.Goals as goal

pub loop-i-init : goal.loop-i-init
loop-i-init c = seam_begins

pub edge_values-requires : goal.edge_values-requires
edge_values-requires c = omega (arith, edge_fits c.loop-i.invariant c.loop-i-test.true, c.requires)

pub loop-i-preserved : goal.loop-i-preserved
loop-i-preserved c = next_edge c.loop-i.invariant c.loop-i-test.true c.requires.room c.edge_values.ensures

pub bounds-out-written : goal.bounds-out-written
bounds-out-written c = omega (arith, last_fits c.loop-i.invariant c.loop-i-test.false, c.requires)

pub returns : goal.returns
returns c =
    let over = c.loop-i-test.false in
    let e : c.loop-i.i ≡ length c.args.counts.now = omega arith in
    record { value = last_fits c.loop-i.invariant over; out_after = rw e at (seam_done c.loop-i.invariant over c.requires.room c.loop-i.auto.out) }

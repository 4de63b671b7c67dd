-- `curve::fill_knots` meets its contract. Before each turn the knots of the points below k are there, and the last of them is `knot`. Assumes nothing.
use mathlib.Core.Path.{◌≡◌, ap, ◌∙◌}
use Prim.Native.Nat.{◌+◌, ◌-◌}
use native.Mathlib.Omega.{arith}
use lib.ListN.{length-set}
use Rattle.curves.specs.Curve.{point_count, knot_of, no_knot, arc_curve}
use Rattle.curves.proofs.Filling.{by_index, stored_more}
use Rattle.curves.proofs.curve.Laws.{first_knot, knot_further}
use Rattle.curves.proofs.curve.fill_knots.Goals as goal

pub loop-k-init : goal.loop-k-init
loop-k-init c =
    let first = first_knot c.args.points.now c.point_at-first.ensures in
    record {
      last_is = first;
      room = rw length-set c.requires.room;
      there = stored_more (knot_of c.args.points.now) c.args.knots.now no_knot (omega arith) (λ k h. absurd (omega arith)) first;
    }

pub loop-k-preserved : goal.loop-k-preserved
loop-k-preserved c =
    let l = c.loop-k in
    let inv = l.invariant in
    let next = knot_further c.args.points.now l.k inv.last_is (omega arith) c.point_at.ensures c.next-knot.ensures in
    let last : l.k ≡ l.k + 1 - 1 = omega arith in
    record {
      last_is = next ∙ ap (knot_of c.args.points.now) last;
      room = rw length-set inv.room;
      there = stored_more (knot_of c.args.points.now) l.knots no_knot (omega (arith, inv.room, c.loop-k-test.true)) inv.there next;
    }

pub returns-clause-knots_after : goal.returns-clause-knots_after
unfolding arc_curve
returns-clause-knots_after c =
    let inv = c.loop-k.invariant in
    by_index (knot_of c.args.points.now) (point_count c.args.points.now) c.loop-k.knots no_knot inv.room (λ i h. inv.there i (omega arith))

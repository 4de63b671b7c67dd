-- `grid::map_points` meets its contract. Before each turn the points below the index stand in the place of their pairs, and the other pairs are left.
-- Assumes nothing.
use mathlib.Core.Path.{ap, ◌∙◌}
use native.Mathlib.Omega.{arith}
use lib.ListN.{length-set}
use Rattle.std.proofs.Common.{◌≢◌, get_or-set_other}
use Rattle.curves.specs.Patch.{coons_point}
use Rattle.curves.specs.inner.Curves.{curves_of}
use Rattle.curves.specs.declared.point.Point.{Point}
use Rattle.curves.proofs.Filling.{stored_more}
use Rattle.curves.proofs.grid.map_points.Goals as goal

pub loop-p-preserved : goal.loop-p-preserved
loop-p-preserved c =
    let l = c.loop-p in
    let curves = curves_of c.args.patch.now in
    let pair = l.invariant.left l.p-index (omega arith) in
    record {
      each = rw length-set l.invariant.each;
      holds = stored_more _ l.row _ (omega (arith, c.loop-p-test.true, l.invariant.each)) l.invariant.holds (c.coons_point.ensures ∙ ap (λ (p : Point). coons_point curves p.x p.y) pair);
      left = λ k h. let other : k ≢ l.p-index = omega arith in rw get_or-set_other (l.invariant.left k (omega arith));
    }

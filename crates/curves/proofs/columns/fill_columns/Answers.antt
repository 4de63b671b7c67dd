-- `columns::fill_columns` meets its contract. Before each turn the columns of the first i values of the seam are there. Assumes nothing.
use mathlib.Core.Path.{ap, ◌∙◌}
use native.Mathlib.Omega.{arith}
use lib.ListN.{length-set}
use Rattle.curves.specs.inner.Columns.{column_at}
use Rattle.curves.proofs.Filling.{stored_more}
use Rattle.curves.proofs.columns.fill_columns.Goals as goal

pub loop-i-preserved : goal.loop-i-preserved
loop-i-preserved c =
    let inv = c.loop-i.invariant in
    record {
      each = rw length-set inv.each;
      holds = stored_more _ c.loop-i.columns _ (omega (arith, inv.each, c.loop-i-test.true)) inv.holds (c.column_at.ensures ∙ ap (column_at c.args.patch.now) c.clamp_unit.ensures);
    }

-- `patch::coons_point` meets its contract: a column and a row make the point. Assumes nothing.
use Rattle.curves.specs.inner.Curves.{curves_of}
use Rattle.curves.proofs.patch.Laws.{patched}
use Rattle.curves.proofs.patch.coons_point.Goals as goal

pub returns : goal.returns
returns c =
    let p = c.args.patch.now in
    rw (c.patch_point.ensures, c.column_at-column.ensures, c.row_at-row.ensures) (patched (curves_of p) c.args.u c.args.v p.bottom_ends p.top_ends)

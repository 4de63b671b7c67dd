-- `grid::fill_row` meets its contract: by the columns where there are some and the row's line is level, else by the crossings. Assumes nothing.
use Rattle.std.proofs.Common.{refl, arith}
use Rattle.curves.specs.inner.Curves.{curves_of}
use Rattle.curves.proofs.grid.RowLaws.{level_filled, mapped_filled, crossing_refused}
use Rattle.curves.proofs.grid.fill_row.Goals as goal

pub returns-then-is_straight : goal.returns-then-is_straight
returns-then-is_straight c =
    let a = c.args in
    let given = c.requires in
    level_filled a.patch.now a.j (rw c.in-Some.is at given.level) given.row_given.some
    (c.if-is_straight.ensures refl) c.row_at-across.ensures c.level_points.ensures

pub returns-in_err-fill_crossings : goal.returns-in_err-fill_crossings
returns-in_err-fill_crossings c =
    let a = c.args in
    crossing_refused (curves_of a.patch.now) a.bottom_u.now a.top_u.now a.v0 a.v1 a.j _ _ c.from_residual.ensures.1
    c.in_err-fill_crossings.ensures

pub returns : goal.returns
returns c =
    let a = c.args in
    mapped_filled (curves_of a.patch.now) a.bottom_u.now a.top_u.now a.v0 a.v1 a.j c.in_ok-fill_crossings.ensures (omega arith)
    c.map_points.ensures

-- `grid::grid_rows` meets its contract. Before each turn the rows below j have passed and what they give is written; the last of them is `low`. Assumes
-- nothing.
use Rattle.std.proofs.Common.{◌≡◌, ◌∙◌, refl, ap, List, ◌-◌, length, arith}
use mathlib.Core.List.{◌++◌, append-nil}
use lib.ListN.{drop}
use Rattle.std.specs.Borrow.{MutBor}
use Rattle.std.proofs.Math.Seq.{take-length, drop-length}
use Rattle.base.specs.Refusal.{outcome}
use Rattle.curves.specs.declared.point.Point.{Point}
use Rattle.base.proofs.TestLaws.{and_told}
use Rattle.curves.proofs.rows.Laws.{size_told}
use Rattle.curves.proofs.grid.Filled.{no_rows, row_read, row_has_room, rows_refused, next_row, rows_done}
use Rattle.curves.proofs.grid.grid_rows.Goals as goal
use Rattle.curves.proofs.grid.grid_rows.Goals.{After-fill_row}

pub loop-j-init : goal.loop-j-init
loop-j-init c = record { low_row = c.requires.low_row; high_row = c.requires.high_row; same_out = refl; laid = no_rows }

pub returns-in_err-fill_row : goal.returns-in_err-fill_row
returns-in_err-fill_row c =
    rows_refused c.loop-j.invariant.laid _ _ c.from_residual.ensures.1 (omega arith) c.in_err-fill_row.ensures

-- row j as `fill_row` leaves it
abbrev row : After-fill_row → List Point
row c = c.fill_row.new.row

row_long : (c : After-fill_row) → length (row c) ≡ length c.args.seams.bottom.now
row_long c = c.fill_row.auto.row ∙ ap length (take-length _) ∙ c.loop-j.invariant.high_row

-- the rows are lent whole
abbrev upper : After-fill_row → List Point
upper c = let high = c.loop-j.high.now in row c ++ drop (length high) high

upper_is : (c : After-fill_row) → upper c ≡ row c
upper_is c = rw (drop-length, append-nil)

pub write_row-below-requires : goal.write_row-below-requires
write_row-below-requires c =
    let inv = c.loop-j.invariant in
    let fill = (goal.at.write_row-below-requires c).After-fill_row in
    let room = row_has_room inv.laid (omega arith) c.requires.room (row_read c.in_ok-fill_row.ensures) in
    rw (take-length c.loop-j.low.now, upper_is fill, take-length (row fill)) (record {
      rows = record { cells = omega arith; index = omega arith; low_long = omega (arith, inv.low_row); high_long = omega (arith, row_long fill) };
      room = omega (arith, room, inv.same_out);
    })

pub overflow_add-at : goal.overflow_add-at
overflow_add-at c =
    let inv = c.loop-j.invariant in
    let room = row_has_room inv.laid (omega arith) c.requires.room (row_read c.in_ok-fill_row.ensures) in
    let size = size_told c.args.layout c.loop-j.low.now c.fill_row.new.row (length c.args.seams.bottom.now - 1) c.loop-j.j in
    omega (arith, room, size, inv.same_out, c.well_formed, c.row_size-at.ensures)

pub loop-j-preserved : goal.loop-j-preserved
loop-j-preserved c =
    let inv = c.loop-j.invariant in
    let fill = (goal.at.loop-j-preserved c).After-fill_row in
    let laid = rw (take-length c.loop-j.low.now, upper_is fill, take-length (row fill)) at c.write_row-below.ensures in
    let next = next_row inv.laid (omega arith) c.requires.room c.in_ok-fill_row.ensures laid
    (ap outcome c.and-cells.ensures ∙ and_told c.loop-j.cells c.write_row-below.result) c.row_size-at.ensures in
    let low = ap (λ (m : MutBor (List Point)). m.now) c.swap.ensures.x_after ∙ upper_is fill in
    let high = ap (λ (m : MutBor (List Point)). m.now) c.swap.ensures.y_after in
    record {
      low_row = ap length low ∙ row_long fill;
      high_row = ap length high ∙ inv.low_row;
      same_out = c.write_row-below.auto.out ∙ inv.same_out;
      laid = rw low next;
    }

pub returns : goal.returns
returns c = rows_done c.loop-j.cells c.loop-j.invariant.laid (omega arith)

-- `grid::fill_crossings` meets its contract. Before each turn the crossings before i are there and have passed. Assumes nothing.
use Rattle.std.proofs.Common.{arith}
use Rattle.curves.proofs.grid.Laws.{row_begins, row_goes_on, row_stops, row_ends}
use Rattle.curves.proofs.grid.fill_crossings.Goals as goal

pub loop-i-init : goal.loop-i-init
loop-i-init c = row_begins (omega (arith, c.requires))

pub returns-in_err-row : goal.returns-in_err-row
returns-in_err-row c =
    row_stops _ _ c.from_residual.ensures.1 c.loop-i.invariant (omega (arith, c.loop-i-test.true)) c.in_err-row.ensures

pub loop-i-preserved : goal.loop-i-preserved
loop-i-preserved c =
    row_goes_on _ c.loop-i.invariant (omega (arith, c.loop-i-test.true)) c.in_ok-row.ensures

pub returns : goal.returns
returns c = row_ends c.loop-i.invariant (omega (arith, c.loop-i-test.false, c.requires.some))

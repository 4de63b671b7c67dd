-- `rows::check_cells` meets its contract. Before each turn the whole test is that of the cells from i on. Assumes nothing.
use Rattle.std.proofs.Common.{◌∙◌, sym, ap}
use Rattle.curves.specs.Grid.{area_test}
use Rattle.curves.specs.inner.Rows.{cell_test, cells_test}
use Rattle.curves.specs.declared.quad.Quad.{Quad}
use Rattle.base.proofs.TestLaws.{exit_is, first_next, first_stops, first_done}
use Rattle.curves.proofs.rows.check_cells.Goals as goal

pub returns-in_err-check : goal.returns-in_err-check
unfolding cells_test cell_test
returns-in_err-check c =
    let a = c.args in
    let told = c.in_err-check.ensures ∙ ap (λ (q : Quad). area_test q c.loop-i.i a.j) c.cell.ensures in
    exit_is _ _ c.from_residual.ensures.1 ∙ first_stops (cell_test a.low.now a.high.now a.j) _ _ _ c.loop-i-test.true told ∙ sym c.loop-i.invariant

pub loop-i-preserved : goal.loop-i-preserved
unfolding cell_test
loop-i-preserved c =
    let a = c.args in
    let told = c.in_ok-check.ensures ∙ ap (λ (q : Quad). area_test q c.loop-i.i a.j) c.cell.ensures in
    c.loop-i.invariant ∙ first_next (cell_test a.low.now a.high.now a.j) _ _ c.loop-i-test.true told

pub returns : goal.returns
unfolding cells_test
returns c = first_done (cell_test c.args.low.now c.args.high.now c.args.j) _ _ c.loop-i-test.false ∙ sym c.loop-i.invariant

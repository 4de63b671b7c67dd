-- `seam::check_values` meets its contract. Before each turn the whole test is that of the values from i on. Assumes nothing.
use Rattle.std.proofs.Common.{◌∙◌, sym}
use Rattle.base.proofs.TestLaws.{exit_is, first_next, first_stops, first_done}
use Rattle.curves.proofs.seam.check_values.Goals as goal

pub returns-in_err-check_value : goal.returns-in_err-check_value
returns-in_err-check_value c =
    exit_is _ _ c.from_residual.ensures.1 ∙ first_stops _ _ _ _ c.loop-i-test.true c.in_err-check_value.ensures ∙ sym c.loop-i.invariant

pub loop-i-preserved : goal.loop-i-preserved
loop-i-preserved c = c.loop-i.invariant ∙ first_next _ _ _ c.loop-i-test.true c.in_ok-check_value.ensures

pub returns : goal.returns
returns c = first_done _ _ _ c.loop-i-test.false ∙ sym c.loop-i.invariant

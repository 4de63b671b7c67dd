-- `lay::check_all_breaks` meets its contract. Assumes nothing.
use Rattle.std.proofs.Common.{◌∙◌}
use Rattle.base.proofs.TestLaws.{exit_stops, chain_goes_on}
use Rattle.curves.proofs.lay.check_all_breaks.Goals as goal

pub returns-in_err-check_breaks : goal.returns-in_err-check_breaks
returns-in_err-check_breaks c = exit_stops _ _ _ c.from_residual.ensures.1 c.in_err-check_breaks.ensures

pub returns-in_err-check_breaks-2 : goal.returns-in_err-check_breaks-2
returns-in_err-check_breaks-2 c =
    exit_stops _ _ _ c.from_residual-in_err-check_breaks-2.ensures.1 c.in_err-check_breaks-2.ensures
    ∙ chain_goes_on c.in_ok-check_breaks.ensures

pub returns-in_err-check_breaks-3 : goal.returns-in_err-check_breaks-3
returns-in_err-check_breaks-3 c =
    exit_stops _ _ _ c.from_residual-in_err-check_breaks-3.ensures.1 c.in_err-check_breaks-3.ensures
    ∙ chain_goes_on c.in_ok-check_breaks-2.ensures
    ∙ chain_goes_on c.in_ok-check_breaks.ensures

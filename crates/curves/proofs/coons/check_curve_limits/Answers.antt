-- `coons::check_curve_limits` meets its contract. Assumes nothing.
use Rattle.std.proofs.Common.{◌∙◌}
use Rattle.base.proofs.TestLaws.{exit_stops, chain_goes_on}
use Rattle.curves.specs.Coons.{curves_limit}
use Rattle.curves.proofs.coons.check_curve_limits.Goals as goal

pub returns-in_err-check_curve_limit : goal.returns-in_err-check_curve_limit
unfolding curves_limit
returns-in_err-check_curve_limit c = exit_stops _ _ _ c.from_residual.ensures.1 c.in_err-check_curve_limit.ensures

pub returns-in_err-check_curve_limit-2 : goal.returns-in_err-check_curve_limit-2
unfolding curves_limit
returns-in_err-check_curve_limit-2 c =
    exit_stops _ _ _ c.from_residual-in_err-check_curve_limit-2.ensures.1 c.in_err-check_curve_limit-2.ensures
    ∙ chain_goes_on c.in_ok-check_curve_limit.ensures

pub returns-in_err-check_curve_limit-3 : goal.returns-in_err-check_curve_limit-3
unfolding curves_limit
returns-in_err-check_curve_limit-3 c =
    exit_stops _ _ _ c.from_residual-in_err-check_curve_limit-3.ensures.1 c.in_err-check_curve_limit-3.ensures
    ∙ chain_goes_on c.in_ok-check_curve_limit-2.ensures
    ∙ chain_goes_on c.in_ok-check_curve_limit.ensures

pub returns : goal.returns
unfolding curves_limit
returns c =
    c.check_curve_limit-4.ensures
    ∙ chain_goes_on c.in_ok-check_curve_limit-3.ensures
    ∙ chain_goes_on c.in_ok-check_curve_limit-2.ensures
    ∙ chain_goes_on c.in_ok-check_curve_limit.ensures

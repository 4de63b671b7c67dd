-- `seam::check_seams` meets its contract. Assumes nothing.
use Rattle.std.proofs.Common.{◌∙◌}
use Rattle.base.proofs.TestLaws.{exit_stops, chain_goes_on}
use Rattle.curves.specs.Seam.{seams_test}
use Rattle.curves.proofs.seam.check_seams.Goals as goal

pub returns-in_err-validate_parameters : goal.returns-in_err-validate_parameters
unfolding seams_test
returns-in_err-validate_parameters c = exit_stops _ _ _ c.from_residual.ensures.1 c.in_err-validate_parameters.ensures

pub returns-in_err-validate_parameters-2 : goal.returns-in_err-validate_parameters-2
unfolding seams_test
returns-in_err-validate_parameters-2 c =
    exit_stops _ _ _ c.from_residual-in_err-validate_parameters-2.ensures.1 c.in_err-validate_parameters-2.ensures
    ∙ chain_goes_on c.in_ok-validate_parameters.ensures

pub returns-in_err-validate_parameters-3 : goal.returns-in_err-validate_parameters-3
unfolding seams_test
returns-in_err-validate_parameters-3 c =
    exit_stops _ _ _ c.from_residual-in_err-validate_parameters-3.ensures.1 c.in_err-validate_parameters-3.ensures
    ∙ chain_goes_on c.in_ok-validate_parameters-2.ensures
    ∙ chain_goes_on c.in_ok-validate_parameters.ensures

pub returns-in_err-validate_parameters-4 : goal.returns-in_err-validate_parameters-4
unfolding seams_test
returns-in_err-validate_parameters-4 c =
    exit_stops _ _ _ c.from_residual-in_err-validate_parameters-4.ensures.1 c.in_err-validate_parameters-4.ensures
    ∙ chain_goes_on c.in_ok-validate_parameters-3.ensures
    ∙ chain_goes_on c.in_ok-validate_parameters-2.ensures
    ∙ chain_goes_on c.in_ok-validate_parameters.ensures

pub returns-in_err-check_pair : goal.returns-in_err-check_pair
unfolding seams_test
returns-in_err-check_pair c =
    exit_stops _ _ _ c.from_residual-in_err-check_pair.ensures.1 c.in_err-check_pair.ensures
    ∙ chain_goes_on c.in_ok-validate_parameters-4.ensures
    ∙ chain_goes_on c.in_ok-validate_parameters-3.ensures
    ∙ chain_goes_on c.in_ok-validate_parameters-2.ensures
    ∙ chain_goes_on c.in_ok-validate_parameters.ensures

pub returns : goal.returns
unfolding seams_test
returns c =
    c.check_pair-2.ensures
    ∙ chain_goes_on c.in_ok-check_pair.ensures
    ∙ chain_goes_on c.in_ok-validate_parameters-4.ensures
    ∙ chain_goes_on c.in_ok-validate_parameters-3.ensures
    ∙ chain_goes_on c.in_ok-validate_parameters-2.ensures
    ∙ chain_goes_on c.in_ok-validate_parameters.ensures

-- `boundary::check_ends` meets its contract. Assumes nothing.
use Rattle.std.proofs.Common.{◌∙◌, ap}
use Rattle.base.proofs.TestLaws.{exit_stops, chain_goes_on}
use Rattle.curves.specs.Boundary.{joined_test, ends_test}
use Rattle.curves.proofs.boundary.check_ends.Goals as goal

pub returns-in_err-check_corner : goal.returns-in_err-check_corner
unfolding joined_test ends_test
returns-in_err-check_corner c =
    exit_stops _ _ _ c.from_residual.ensures.1 c.in_err-check_corner.ensures
    ∙ ap (joined_test c.args.e) c.tolerance-allowed.ensures

pub returns-in_err-check_corner-2 : goal.returns-in_err-check_corner-2
unfolding joined_test ends_test
returns-in_err-check_corner-2 c =
    exit_stops _ _ _ c.from_residual-in_err-check_corner-2.ensures.1 c.in_err-check_corner-2.ensures
    ∙ chain_goes_on c.in_ok-check_corner.ensures
    ∙ ap (joined_test c.args.e) c.tolerance-allowed.ensures

pub returns-in_err-check_corner-3 : goal.returns-in_err-check_corner-3
unfolding joined_test ends_test
returns-in_err-check_corner-3 c =
    exit_stops _ _ _ c.from_residual-in_err-check_corner-3.ensures.1 c.in_err-check_corner-3.ensures
    ∙ chain_goes_on c.in_ok-check_corner-2.ensures
    ∙ chain_goes_on c.in_ok-check_corner.ensures
    ∙ ap (joined_test c.args.e) c.tolerance-allowed.ensures

pub returns-in_err-check_corner-4 : goal.returns-in_err-check_corner-4
unfolding joined_test ends_test
returns-in_err-check_corner-4 c =
    exit_stops _ _ _ c.from_residual-in_err-check_corner-4.ensures.1 c.in_err-check_corner-4.ensures
    ∙ chain_goes_on c.in_ok-check_corner-3.ensures
    ∙ chain_goes_on c.in_ok-check_corner-2.ensures
    ∙ chain_goes_on c.in_ok-check_corner.ensures
    ∙ ap (joined_test c.args.e) c.tolerance-allowed.ensures

pub returns-in_err-check_corner-5 : goal.returns-in_err-check_corner-5
unfolding joined_test ends_test
returns-in_err-check_corner-5 c =
    exit_stops _ _ _ c.from_residual-in_err-check_corner-5.ensures.1 c.in_err-check_corner-5.ensures
    ∙ chain_goes_on c.in_ok-check_corner-4.ensures
    ∙ chain_goes_on c.in_ok-check_corner-3.ensures
    ∙ chain_goes_on c.in_ok-check_corner-2.ensures
    ∙ chain_goes_on c.in_ok-check_corner.ensures
    ∙ ap (joined_test c.args.e) c.tolerance-allowed.ensures

pub returns : goal.returns
unfolding joined_test ends_test
returns c =
    c.check_winding.ensures
    ∙ chain_goes_on c.in_ok-check_corner-5.ensures
    ∙ chain_goes_on c.in_ok-check_corner-4.ensures
    ∙ chain_goes_on c.in_ok-check_corner-3.ensures
    ∙ chain_goes_on c.in_ok-check_corner-2.ensures
    ∙ chain_goes_on c.in_ok-check_corner.ensures
    ∙ ap (joined_test c.args.e) c.tolerance-allowed.ensures

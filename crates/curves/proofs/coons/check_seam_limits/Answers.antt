-- `coons::check_seam_limits` meets its contract. Assumes nothing.
use Rattle.std.proofs.Common.{◌∙◌}
use Rattle.base.proofs.TestLaws.{exit_stops, chain_goes_on}
use Rattle.curves.specs.Coons.{seams_limit}
use Rattle.curves.proofs.coons.check_seam_limits.Goals as goal

pub returns-in_err-check_seam_limit : goal.returns-in_err-check_seam_limit
unfolding seams_limit
returns-in_err-check_seam_limit c = exit_stops _ _ _ c.from_residual.ensures.1 c.in_err-check_seam_limit.ensures

pub returns-in_err-check_seam_limit-2 : goal.returns-in_err-check_seam_limit-2
unfolding seams_limit
returns-in_err-check_seam_limit-2 c =
    exit_stops _ _ _ c.from_residual-in_err-check_seam_limit-2.ensures.1 c.in_err-check_seam_limit-2.ensures
    ∙ chain_goes_on c.in_ok-check_seam_limit.ensures

pub returns-in_err-check_seam_limit-3 : goal.returns-in_err-check_seam_limit-3
unfolding seams_limit
returns-in_err-check_seam_limit-3 c =
    exit_stops _ _ _ c.from_residual-in_err-check_seam_limit-3.ensures.1 c.in_err-check_seam_limit-3.ensures
    ∙ chain_goes_on c.in_ok-check_seam_limit-2.ensures
    ∙ chain_goes_on c.in_ok-check_seam_limit.ensures

pub returns : goal.returns
unfolding seams_limit
returns c =
    c.check_seam_limit-4.ensures
    ∙ chain_goes_on c.in_ok-check_seam_limit-3.ensures
    ∙ chain_goes_on c.in_ok-check_seam_limit-2.ensures
    ∙ chain_goes_on c.in_ok-check_seam_limit.ensures

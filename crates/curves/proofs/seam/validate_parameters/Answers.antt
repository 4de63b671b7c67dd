-- `seam::validate_parameters` meets its contract. Assumes nothing.
use Rattle.std.proofs.Common.{◌∙◌}
use Rattle.base.specs.Refusal.{verdict_of}
use Rattle.base.proofs.TestLaws.{exit_stops, chain_goes_on}
use Rattle.curves.proofs.seam.Laws.{too_short, long_enough}
use Rattle.curves.proofs.seam.validate_parameters.Goals as goal

pub returns-then-values-lt2 : goal.returns-then-values-lt2
unfolding verdict_of
returns-then-values-lt2 c = too_short _ _ c.if-values-lt2.true

pub returns-in_err-check_values : goal.returns-in_err-check_values
returns-in_err-check_values c = exit_stops _ _ _ c.from_residual.ensures.1 c.in_err-check_values.ensures ∙ long_enough _ _ c.if-values-lt2.false

pub returns : goal.returns
returns c = c.check_seam_ends.ensures ∙ chain_goes_on c.in_ok-check_values.ensures ∙ long_enough _ _ c.if-values-lt2.false

-- `coons::check_seamed_limits` meets its contract. Assumes nothing.
use Rattle.base.proofs.TestLaws.{exit_stops}
use Rattle.curves.proofs.coons.check_seamed_limits.Goals as goal

pub returns-in_err-check_curve_limits : goal.returns-in_err-check_curve_limits
returns-in_err-check_curve_limits c = exit_stops _ _ _ c.from_residual.ensures.1 c.in_err-check_curve_limits.ensures

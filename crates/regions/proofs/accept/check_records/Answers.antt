-- `regions::accept::check_records` meets its contract: two tests in a row, of which the first lets by what the second one requires.
-- Assumes nothing.
use Rattle.std.proofs.Common.{◌∙◌}
use Rattle.base.proofs.TestLaws.{exit_stops, chain_goes_on, was_passed}
use Rattle.regions.specs.Region.{places}
use Rattle.regions.specs.Accept.{records_test}
use Rattle.regions.proofs.accept.Laws.{limits_passed}
use Rattle.regions.proofs.accept.check_records.Goals as goal

pub returns-in_err-check_limits : goal.returns-in_err-check_limits
unfolding records_test
returns-in_err-check_limits c = exit_stops _ _ _ c.from_residual.ensures.1 c.in_err-check_limits.ensures

pub check_pairs-requires : goal.check_pairs-requires
check_pairs-requires c = (limits_passed places c.args.n c.args.regions.now (was_passed c.in_ok-check_limits.ensures)).1

pub returns : goal.returns
unfolding records_test
returns c = c.check_pairs.ensures ∙ chain_goes_on c.in_ok-check_limits.ensures

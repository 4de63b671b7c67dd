-- `lay::check_lay` meets its contract. Assumes nothing.
use Rattle.std.proofs.Common.{◌∙◌}
use Rattle.base.proofs.TestLaws.{exit_stops, chain_goes_on}
use Rattle.curves.specs.Lay.{sides_test, lay_test}
use Rattle.curves.proofs.lay.check_lay.Goals as goal

pub returns-in_err-check_record : goal.returns-in_err-check_record
unfolding lay_test
returns-in_err-check_record c = exit_stops _ _ _ c.from_residual.ensures.1 c.in_err-check_record.ensures

pub returns-in_err-check_curve_limits : goal.returns-in_err-check_curve_limits
unfolding lay_test
returns-in_err-check_curve_limits c =
    exit_stops _ _ _ c.from_residual-in_err-check_curve_limits.ensures.1 c.in_err-check_curve_limits.ensures
    ∙ chain_goes_on c.in_ok-check_record.ensures

pub returns-in_err-check_all_edges : goal.returns-in_err-check_all_edges
unfolding lay_test sides_test
returns-in_err-check_all_edges c =
    exit_stops _ _ _ c.from_residual-in_err-check_all_edges.ensures.1 c.in_err-check_all_edges.ensures
    ∙ chain_goes_on c.in_ok-check_curve_limits.ensures
    ∙ chain_goes_on c.in_ok-check_record.ensures

pub returns : goal.returns
unfolding lay_test sides_test
returns c =
    c.check_all_breaks.ensures
    ∙ chain_goes_on c.in_ok-check_all_edges.ensures
    ∙ chain_goes_on c.in_ok-check_curve_limits.ensures
    ∙ chain_goes_on c.in_ok-check_record.ensures

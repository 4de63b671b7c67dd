-- `coons::from_parameters` meets its contract. Assumes nothing.
use Rattle.std.proofs.Common.{◌∙◌}
use Rattle.curves.specs.Coons.{coons_from_parameters}
use Rattle.curves.proofs.stage.Laws.{exit_refuses, let_by, limits_passed}
use Rattle.curves.proofs.coons.Laws.{curves_let_by, seams_let_by}
use Rattle.curves.proofs.coons.from_parameters.Goals as goal

pub returns-in_err-check_seamed_limits : goal.returns-in_err-check_seamed_limits
unfolding coons_from_parameters
returns-in_err-check_seamed_limits c = exit_refuses c.args.out.now _ _ _ c.from_residual.ensures.1 c.in_err-check_seamed_limits.ensures

pub patch_in_room-requires : goal.patch_in_room-requires
patch_in_room-requires c =
    let q = limits_passed _ _ c.in_ok-check_seamed_limits.ensures in
    record { curves = curves_let_by q.0; seams = seams_let_by q.1 }

pub returns : goal.returns
unfolding coons_from_parameters
returns c = c.patch_in_room.ensures ∙ let_by c.args.out.now _ c.in_ok-check_seamed_limits.ensures

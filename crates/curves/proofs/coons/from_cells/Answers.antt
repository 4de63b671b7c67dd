-- `coons::from_cells` meets its contract. Assumes nothing.
use Rattle.std.proofs.Common.{◌≡◌, ◌∙◌, arith}
use Rattle.curves.specs.Coons.{Outcome, coons_curves}
use Rattle.curves.specs.inner.Curves.{lent}
use Rattle.curves.specs.inner.Grids.{CellsFitIn, EvenPatchMade}
use Rattle.curves.specs.Limits.{max_seam}
use Rattle.curves.proofs.stage.Laws.{exit_refuses, let_by, limits_passed}
use Rattle.curves.proofs.coons.Laws.{curves_let_by, cells_let_by, even_within}
use Rattle.curves.proofs.coons.from_cells.Goals as goal
use Rattle.curves.proofs.coons.from_cells.Goals.{In_ok-check_even_limits}

within : (c : In_ok-check_even_limits) → CellsFitIn max_seam (lent c.args.curves) c.args.n_u c.args.n_v
within c =
    let q = limits_passed _ _ c.in_ok-check_even_limits.ensures in
    let few = cells_let_by _ _ q.1 in
    record { curves = curves_let_by q.0; us_fit = omega (arith, few); vs_fit = omega (arith, few); small = omega arith }

-- the grid of even seams is what the definition says, the limits being passed
as_defined : (c : In_ok-check_even_limits) (x : Outcome)
    → (let a = c.args in let p = lent a.curves in EvenPatchMade a.layout a.curves a.n_u a.n_v a.out.now x
    → x ≡ coons_curves a.layout p.bottom p.right p.top p.left a.n_u a.n_v a.out.now)
unfolding coons_curves
as_defined c x h =
    let a = c.args in
    let p = lent a.curves in
    let q = limits_passed _ _ c.in_ok-check_even_limits.ensures in
    h
    ∙ even_within a.layout p.bottom p.right p.top p.left a.n_u a.n_v a.out.now q.0 (cells_let_by _ _ q.1)
    ∙ let_by a.out.now _ c.in_ok-check_even_limits.ensures

pub returns-in_err-check_even_limits : goal.returns-in_err-check_even_limits
unfolding coons_curves
returns-in_err-check_even_limits c = exit_refuses c.args.out.now _ _ _ c.from_residual.ensures.1 c.in_err-check_even_limits.ensures

pub even_patch_in-requires : goal.even_patch_in-requires
even_patch_in-requires c = record {
  curves = (within (goal.at.even_patch_in-requires c).In_ok-check_even_limits).curves;
  us_fit = omega arith;
  vs_fit = omega arith;
  small = omega arith;
}

pub returns-then-n_v-le-SMALL_CELLS : goal.returns-then-n_v-le-SMALL_CELLS
returns-then-n_v-le-SMALL_CELLS c =
    as_defined (goal.at.returns-then-n_v-le-SMALL_CELLS c).In_ok-check_even_limits _ c.even_patch_in.ensures

pub even_patch_in-requires-2 : goal.even_patch_in-requires-2
even_patch_in-requires-2 c = within (goal.at.even_patch_in-requires-2 c).In_ok-check_even_limits

pub returns : goal.returns
returns c = as_defined (goal.at.returns c).In_ok-check_even_limits _ c.even_patch_in-2.ensures

-- `lay::lay_region` meets its contract: once its tests are passed, the front of each buffer is the definition's seam, unless one is too long.
-- Assumes nothing.
use Rattle.std.proofs.Common.{◌∙◌, sym, List, ℕ, length, arith}
use lib.Ieee.{Float}
use Rattle.curves.specs.inner.Lays.{lent_input}
use Rattle.curves.specs.declared.sides.Sides.{Sides}
use Rattle.curves.proofs.lay.Laws.{Known, known, lay_refused, SidesLaid, seam_too_long, laid_by}
use Rattle.curves.proofs.lay.lay_region.Goals as goal
use Rattle.curves.proofs.lay.lay_region.Goals.{After-any_too_long, In_ok-check_lay}

passed : (c : In_ok-check_lay) → let a = c.args in Known a.region.now (length a.counts.now) (lent_input a.breaks a.curves)
passed c = known c.in_ok-check_lay.ensures

pub returns-in_err-check_lay : goal.returns-in_err-check_lay
returns-in_err-check_lay c =
    let a = c.args in
    lay_refused a.region.now a.counts.now (lent_input a.breaks a.curves) a.out.now _ _ c.from_residual.ensures.1 c.in_err-check_lay.ensures

pub lay_side-requires : goal.lay_side-requires
lay_side-requires c = record { passed = (passed (goal.at.lay_side-requires c).In_ok-check_lay).side0; room = omega arith }

pub lay_side-requires-2 : goal.lay_side-requires-2
lay_side-requires-2 c = record { passed = (passed (goal.at.lay_side-requires-2 c).In_ok-check_lay).side1; room = omega arith }

pub lay_side-requires-3 : goal.lay_side-requires-3
lay_side-requires-3 c = record { passed = (passed (goal.at.lay_side-requires-3 c).In_ok-check_lay).side2; room = omega arith }

pub lay_side-requires-4 : goal.lay_side-requires-4
lay_side-requires-4 c = record { passed = (passed (goal.at.lay_side-requires-4 c).In_ok-check_lay).side3; room = omega arith }

-- the buffers of the seams, as `lay_side` leaves them, and how many values each seam has
abbrev buffers : After-any_too_long → Sides (List Float)
buffers c = record { bottom = c.lay_side.new.out; right = c.lay_side-2.new.out; top = c.lay_side-3.new.out; left = c.lay_side-4.new.out }

abbrev lengths : After-any_too_long → Sides ℕ
lengths c = record { bottom = c.lay_side.result; right = c.lay_side-2.result; top = c.lay_side-3.result; left = c.lay_side-4.result }

laid : (c : After-any_too_long) → let a = c.args in SidesLaid a.region.now a.counts.now (lent_input a.breaks a.curves) (buffers c) (lengths c)
laid c = record { bottom = c.lay_side.ensures; right = c.lay_side-2.ensures; top = c.lay_side-3.ensures; left = c.lay_side-4.ensures }

pub returns-then-any_too_long : goal.returns-then-any_too_long
returns-then-any_too_long c =
    let a = c.args in
    let at = (goal.at.returns-then-any_too_long c).After-any_too_long in
    seam_too_long a.region.now a.counts.now (lent_input a.breaks a.curves) a.out.now (passed (goal.at.returns-then-any_too_long c).In_ok-check_lay)
    (buffers at) (lengths at) (laid at) (sym c.any_too_long.ensures.value ∙ c.if-any_too_long.true)

pub returns : goal.returns
returns c =
    let a = c.args in
    let at = (goal.at.returns c).After-any_too_long in
    laid_by a.region.now a.counts.now (lent_input a.breaks a.curves) a.out.now (passed (goal.at.returns c).In_ok-check_lay)
    (buffers at) (lengths at) (laid at) (c.any_too_long.ensures.four_short c.if-any_too_long.false) c.coons_from_parameters.ensures

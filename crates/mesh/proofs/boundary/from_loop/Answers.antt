-- `boundary::from_loop` meets its contract. Assumes nothing.
use Rattle.std.proofs.Common.{◌∙◌, ap}
use Rattle.base.specs.Refusal.{verdict_of}
use Rattle.mesh.specs.Loop.{in_fours}
use Rattle.mesh.proofs.boundary.Laws.{too_many, odd_values, whole_points}
use Rattle.mesh.proofs.boundary.from_loop.Goals as goal
use Rattle.mesh.proofs.boundary.from_loop.Goals.{
  then-n-gt-MAX_POINTS-via-then-n-gt-MAX_POINTS as many,
  then-n-gt-MAX_POINTS-via-else-n-gt-MAX_POINTS+then-odd-ne0 as odd,
}

pub returns-then-n-gt-MAX_POINTS : goal.returns-then-n-gt-MAX_POINTS
unfolding verdict_of
returns-then-n-gt-MAX_POINTS c =
    elim c.then-n-gt-MAX_POINTS.branch [
      | many w ↦ too_many _ w.if-n-gt-MAX_POINTS.true
      | odd w ↦ odd_values _ w.if-n-gt-MAX_POINTS.false w.if-odd-ne0.true
    ]

pub returns : goal.returns
returns c = c.in_fours.ensures ∙ ap in_fours c.points_used.ensures ∙ whole_points _ c.if-n-gt-MAX_POINTS.false c.if-odd-ne0.false

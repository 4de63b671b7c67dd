-- `boundary::in_fours` meets its contract. Assumes nothing.
use Rattle.base.specs.Refusal.{verdict_of}
use Rattle.mesh.proofs.boundary.Laws.{four_points, under_eight, not_in_fours, quartered}
use Rattle.mesh.proofs.boundary.in_fours.Goals as goal
use Rattle.mesh.proofs.boundary.in_fours.Goals.{then-used-lt8-via-then-used-lt8 as few, then-used-lt8-via-else-used-lt8+then-over-ne0 as odd}

pub returns-then-used-eq4 : goal.returns-then-used-eq4
returns-then-used-eq4 c = four_points _ c.if-used-eq4.true

pub returns-then-used-lt8 : goal.returns-then-used-lt8
unfolding verdict_of
returns-then-used-lt8 c =
    elim c.then-used-lt8.branch [
      | few w ↦ under_eight _ c.if-used-eq4.false w.if-used-lt8.true
      | odd w ↦ not_in_fours _ c.if-used-eq4.false w.if-used-lt8.false w.if-over-ne0.true
    ]

pub returns : goal.returns
returns c = quartered _ c.if-used-eq4.false c.if-used-lt8.false c.if-over-ne0.false

-- `search::changed_in` meets its contract. Outer invariant: `found` tells of the first i changes (`Scanned`). Inner invariant: `found` as it was,
-- and the change's edge is none of the first j edges (`Missed`). Measures: the changes and the edges still to come. Assumes nothing.
use mathlib.Core.Path.{refl, sym, ap, ◌∙◌}
use Prim.Native.Nat.{ℕ, ◌/◌}
use native.Mathlib.Omega.{arith}
use Rattle.counts.proofs.search.TwoSides.{length_both_in}
use Rattle.counts.proofs.search.Scan.{missed_next, scan_ends, scan_first, scan_missed, scan_second, scan_self}
use Rattle.counts.proofs.search.changed_in.Goals as goal
use Rattle.counts.proofs.search.changed_in.Goals.{then-edge-slot+else-loop-j-test, then-edge-slot+then-loop-j-test+then-edge_at-edge+in-Nothing, else-edge-slot}

pub changes-init : goal.changes-init
changes-init c = record { below = omega arith; fits = omega arith; so_far = refl }

pub loop-j-init : goal.loop-j-init
loop-j-init c = record { same = refl; none = refl }

pub loop-j-preserved : goal.loop-j-preserved
loop-j-preserved c =
    let q = length_both_in c.sides_of-sides.ensures.inside in
    missed_next c.loop-j.invariant (omega (arith, q, c.loop-j-test.true)) (λ r. c.if-edge_at-edge.false (c.edge_at.ensures ∙ r))

pub changes-preserved : goal.changes-preserved
changes-preserved c =
    let inv = c.changes.invariant in
    let t = c.changes-test.true in
    let e = ap (λ (k : ℕ). k / 2) c.wide-edge.ensures.0 in
    let q = length_both_in c.sides_of-sides.ensures.inside in
    elim c.if-edge-slot.branch [
      | then-edge-slot+else-loop-j-test w ↦ scan_missed inv t e w.found-is w.loop-j.invariant (omega (arith, q, w.loop-j-test.false))
      | then-edge-slot+then-loop-j-test+then-edge_at-edge+in-Nothing w ↦
          scan_first inv t e w.if-edge-slot.true (omega (arith, q, w.loop-j-test.true))
          (sym w.edge_at.ensures ∙ w.if-edge_at-edge.true) w.found-is (sym w.loop-j.invariant.same ∙ w.in-Nothing.is)
      | else-edge-slot w ↦ scan_self inv t e w.found-is w.if-edge-slot.false
    ]

pub returns-after-changes : goal.returns-after-changes
returns-after-changes c =
    let sides = c.sides_of-sides.ensures in
    rw (← sides.opposite_is, ← sides.own_is) (scan_ends c.changes.invariant (omega (arith, c.changes-test.false)))

pub returns-in_default : goal.returns-in_default
returns-in_default c =
    let sides = c.sides_of-sides.ensures in
    let t = c.changes-test.true in
    let q = length_both_in sides.inside in
    rw (← sides.opposite_is, ← sides.own_is)
    (scan_second c.changes.invariant t (ap (λ (k : ℕ). k / 2) c.wide-edge.ensures.0)
    c.if-edge-slot.true (omega (arith, q, c.loop-j-test.true))
    (sym c.edge_at.ensures ∙ c.if-edge_at-edge.true)
    (λ r. c.in_default.not-Nothing (c.loop-j.invariant.same ∙ r)))

-- `components::join_at` meets its contract, by what the two slots of the edge hold. Assumes nothing.
use mathlib.Core.Path.{sym}
use native.Mathlib.Omega.{arith}
use Rattle.counts.proofs.components.Laws.{marks_same, marks_renamed}
use Rattle.counts.proofs.components.join_at.Goals as goal

pub returns-then-from-to : goal.returns-then-from-to
returns-then-from-to c =
    let s = c.args in
    marks_same s.incident.now s.marks.now s.e c.wide-a.ensures.0 c.wide-b.ensures.0 c.requires.long
    (sym c.if-from-to.true)

pub returns : goal.returns
returns c =
    let s = c.args in
    marks_renamed s.incident.now s.marks.now s.e c.wide-a.ensures.0 c.wide-b.ensures.0
    (omega (arith, c.if-a-ge-NO_CONSTRAINT.false))
    (omega (arith, c.if-b-ge-NO_CONSTRAINT.false)) c.rename.ensures

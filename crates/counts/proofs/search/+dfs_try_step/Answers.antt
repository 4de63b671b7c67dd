-- `search::dfs` and `search::try_step` meet their contracts: each return is a case of the definition, by the laws of Steps. Assumes nothing.
use mathlib.Core.Path.{sym, ◌∙◌}
use Prim.Native.Nat.{ℕ, ◌%◌}
use native.Mathlib.Omega.{arith}
use lib.Dec.{eqb}
use Rattle.counts.proofs.search.Slots.{other_same}
use Rattle.counts.proofs.search.TwoSides.{length_signed_in, partner_there}
use Rattle.counts.proofs.search.Steps.{Leads, fewer, leads_on, may_cross_next, may_step_now, step_barred, step_crosses}
use Rattle.counts.proofs.search.Steps.{step_shut, step_turned_back, walk_ends, walks_on}
use Rattle.counts.proofs.search.+dfs_try_step.Goals as goal
use Rattle.counts.proofs.search.+dfs_try_step.Goals.{try_step-Else-other-eq-NO_CONSTRAINT}

pub dfs-returns-then-ci-home : goal.dfs-returns-then-ci-home
dfs-returns-then-ci-home t c = c.close_loop.ensures.crosses c.requires.cross

pub dfs-try_step-out-requires : goal.dfs-try_step-out-requires
dfs-try_step-out-requires t c =
    let lent = c.requires in
    let there = partner_there lent.tables lent.cross.small lent.cross.real c.sides_of-sides.ensures _ _ _ c.loop-j-test.true c.partner-change.ensures in (
      omega (arith, fewer lent c.entry-ci.ensures c.if-ci-home.false c.loop-j.invariant),
      may_step_now lent c.entry-ci.ensures c.if-ci-home.false c.loop-j.invariant _ there,
    )

pub dfs-loop-j-preserved : goal.dfs-loop-j-preserved
dfs-loop-j-preserved t c =
    let long = length_signed_in c.sides_of-sides.ensures.inside (eqb (c.wide-last.result % 2) 1) in
    walks_on c.loop-j.invariant c.requires.cross.one (omega (arith, long, c.loop-j-test.true)) c.partner-change.ensures c.try_step-out.ensures

pub dfs-returns : goal.dfs-returns
dfs-returns t c =
    walk_ends c.requires c.entry-ci.ensures c.if-ci-home.false c.wide-last.ensures.0 c.sides_of-sides.ensures
    (omega (arith, c.loop-j-test.false)) c.loop-j.invariant

-- past the third test the step leads to another constraint
leads : (t : ℕ) (c : try_step-Else-other-eq-NO_CONSTRAINT t) →
    Leads c.args.regions.now c.args.incident.now c.args.own.now c.args.allowed.now c.args.used.now c.args.path.now c.args.best.now c.args.depth c.args.current
    c.args.ci c.args.change c.args.home c.entry-other.result c.other_slot-slot.result
leads t c =
    leads_on c.requires c.if-change-current.true (sym c.is_allowed.ensures ∙ c.if-is_allowed.true)
    c.other_slot-slot.ensures c.entry-other.ensures c.if-other-eq-NO_CONSTRAINT.false

pub try_step-returns-then-other-eq-NO_CONSTRAINT : goal.try_step-returns-then-other-eq-NO_CONSTRAINT
try_step-returns-then-other-eq-NO_CONSTRAINT t c =
    let lent = c.requires in
    let other = c.other_slot-slot.ensures.other_is lent.tables lent.step.through in
    c.end_chain.ensures.steps lent.tables lent.step c.if-change-current.true (sym c.is_allowed.ensures ∙ c.if-is_allowed.true)
    (other_same (sym c.if-other-eq-NO_CONSTRAINT.true ∙ c.entry-other.ensures) other)

pub try_step-returns-then-is_used : goal.try_step-returns-then-is_used
try_step-returns-then-is_used t c =
    step_shut (leads t (goal.at.try_step-returns-then-is_used t c).Else-other-eq-NO_CONSTRAINT) (sym c.is_used.ensures ∙ c.if-is_used.true)

pub try_step-returns-then-state-limit : goal.try_step-returns-then-state-limit
try_step-returns-then-state-limit t c =
    step_turned_back (leads t (goal.at.try_step-returns-then-state-limit t c).Else-other-eq-NO_CONSTRAINT)
    (sym c.is_used.ensures ∙ c.if-is_used.false) c.if-state-limit.true

pub try_step-dfs-r-requires : goal.try_step-dfs-r-requires
try_step-dfs-r-requires t c =
    (omega arith, may_cross_next (leads t (goal.at.try_step-dfs-r-requires t c).Else-other-eq-NO_CONSTRAINT) (sym c.is_used.ensures ∙ c.if-is_used.false))

pub try_step-returns-then-is_allowed : goal.try_step-returns-then-is_allowed
try_step-returns-then-is_allowed t c =
    step_crosses (leads t (goal.at.try_step-returns-then-is_allowed t c).Else-other-eq-NO_CONSTRAINT)
    (sym c.is_used.ensures ∙ c.if-is_used.false) (omega (arith, c.if-state-limit.false)) c.edge_cost.ensures c.dfs-r.ensures

pub try_step-returns-else-is_allowed : goal.try_step-returns-else-is_allowed
try_step-returns-else-is_allowed t c = step_barred c.if-change-current.true c.is_allowed.ensures c.if-is_allowed.false

-- `counts::check::check_ranges` meets its contract: what `position` finds is the first range that fails 2, then the first that fails 35.
-- Assumes nothing.
use Rattle.std.proofs.Common.{◌≡◌, ◌∙◌, sym, ap, rules, Bool, not, ◌&&◌}
use mathlib.Core.Bool.{not-not}
use Rattle.std.specs.Float.Ieee.{Float, lt}
use Rattle.std.proofs.lemmas.Iterator.{YieldsList-from_slice, YieldsList-from_zip}
use Rattle.std.proofs.lemmas.Iterator.Search.{position_from_yields_List}
use Rattle.std.specs.List.{position}
use borrow.Author.Tests.{tests}
use Rattle.base.specs.Refusal.{passed, verdict_of}
use Rattle.base.specs.declared.refusal.Refusal.TheVariants.{BadIdeal}
use Rattle.base.proofs.TestLaws.{chain_stops, chain_goes_on}
use Rattle.counts.specs.Values.{first_bad, ranges, ends_ok, in_order}
use Rattle.counts.proofs.check.Laws.{refused_at, first_bad_is, ideal_is, zip_is}
use Rattle.floats.specs.Scalar.{is_positive}
use Rattle.counts.proofs.check.check_ranges.Goals as goal
use Rattle.counts.proofs.check.check_ranges.Goals.{After-position-bad, After-position-reversed, In_default}

bad : (c : After-position-bad) → refused_at 2 c.position-bad.result ≡ first_bad ends_ok 2 0 (ranges c.args.ranges.least.now c.args.ranges.most.now)
bad c =
    let least = c.args.ranges.least.now in
    let most = c.args.ranges.most.now in
    let test : Float × Float → Bool = λ r. not (is_positive r.0 && is_positive r.1) in
    first_bad_is test ends_ok (λ r. rw (ideal_is, ideal_is)) 2 (ranges least most)
    (position_from_yields_List test c.position-bad.new.self _ _ c.position-bad.ensures.ran
    (YieldsList-from_zip (YieldsList-from_slice least cc) (YieldsList-from_slice most cc)) (λ x b q k. search (rules, tests))
    ∙ ap (position test) (zip_is least most))

reversed : (c : After-position-reversed) → refused_at 35 c.position-reversed.result ≡ first_bad in_order 35 0 (ranges c.args.ranges.least.now c.args.ranges.most.now)
reversed c =
    let least = c.args.ranges.least.now in
    let most = c.args.ranges.most.now in
    let test : Float × Float → Bool = λ r. lt r.1 r.0 in
    first_bad_is test in_order (λ r. sym (not-not (lt r.1 r.0))) 35 (ranges least most)
    (position_from_yields_List test c.position-reversed.new.self _ _ c.position-reversed.ensures.ran
    (YieldsList-from_zip (YieldsList-from_slice least cc) (YieldsList-from_slice most cc)) (λ x b q k. search (rules, tests))
    ∙ ap (position test) (zip_is least most))

pub returns-in-Some : goal.returns-in-Some
unfolding verdict_of
returns-in-Some c = chain_stops (BadIdeal c.in-Some.edge) _ (ap (refused_at 2) (sym c.in-Some.is) ∙ bad (goal.at.returns-in-Some c).After-position-bad)

-- 2 has passed
ends_pass : (c : In_default) → passed ≡ first_bad ends_ok 2 0 (ranges c.args.ranges.least.now c.args.ranges.most.now)
ends_pass c = ap (refused_at 2) (sym c.in_default.is) ∙ bad (goal.at.In_default c).After-position-bad

pub returns-in-Some-reversed : goal.returns-in-Some-reversed
unfolding verdict_of
returns-in-Some-reversed c =
    ap (refused_at 35) (sym c.in-Some-reversed.is)
    ∙ reversed (goal.at.returns-in-Some-reversed c).After-position-reversed
    ∙ chain_goes_on (ends_pass (goal.at.returns-in-Some-reversed c).In_default)

pub returns : goal.returns
returns c =
    ap (refused_at 35) (sym c.in_default-reversed.is)
    ∙ reversed (goal.at.returns c).After-position-reversed
    ∙ chain_goes_on (ends_pass (goal.at.returns c).In_default)

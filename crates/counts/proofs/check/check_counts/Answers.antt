-- `counts::check::check_counts` meets its contract: what `position` finds is the first count that is too large. Assumes nothing.
use Rattle.std.proofs.Common.{◌≡◌, ◌∙◌, sym, ap, ltb, rules}
use Rattle.std.proofs.lemmas.Iterator.{YieldsList-from_slice}
use Rattle.std.proofs.lemmas.Iterator.Search.{position_from_yields_List}
use borrow.Author.Tests.{tests}
use Rattle.base.specs.Refusal.{verdict_of}
use Rattle.counts.specs.Values.{count_ok, max_count, counts_test}
use Rattle.counts.proofs.check.Laws.{refused_at, first_bad_is, over_is}
use Rattle.counts.proofs.check.check_counts.Goals as goal
use Rattle.counts.proofs.check.check_counts.Goals.{After-position}

found : (c : After-position) → refused_at 9 c.position.result ≡ counts_test c.args.counts.now
found c =
    let xs = c.args.counts.now in
    first_bad_is (ltb max_count) count_ok (over_is max_count) 9 xs
    (position_from_yields_List (ltb max_count) _ _ _ c.position.ensures.ran (YieldsList-from_slice xs cc) (λ x b q k. search (rules, tests)))

pub returns-in-Some : goal.returns-in-Some
unfolding verdict_of
returns-in-Some c = ap (refused_at 9) (sym c.in-Some.is) ∙ found (goal.at.returns-in-Some c).After-position

pub returns : goal.returns
returns c = ap (refused_at 9) (sym c.in_default.is) ∙ found (goal.at.returns c).After-position

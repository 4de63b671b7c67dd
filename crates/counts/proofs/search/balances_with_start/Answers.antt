-- `search::balances_with_start` meets its contract, by whether both edges stand on one side. Assumes nothing.
use Rattle.counts.proofs.search.Endings.{balanced_by, like_signs, unlike_signs}
use Rattle.counts.proofs.search.balances_with_start.Goals as goal

pub returns-then-start_first-first : goal.returns-then-start_first-first
returns-then-start_first-first c =
    balanced_by c.requires.0 c.slot_in-start_slot.ensures c.on_first_side-start_first.ensures c.on_first_side-first.ensures
    (unlike_signs c.args.start c.args.change _ c.if-start_first-first.true)

pub returns : goal.returns
returns c =
    balanced_by c.requires.0 c.slot_in-start_slot.ensures c.on_first_side-start_first.ensures c.on_first_side-first.ensures
    (like_signs c.args.start c.args.change _ c.if-start_first-first.false)

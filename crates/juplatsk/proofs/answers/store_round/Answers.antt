-- `store_round` meets its contract. Assumes nothing.
use Rattle.juplatsk.proofs.Laws.{round_stored_by}
use Rattle.juplatsk.proofs.answers.store_round.Goals as goal

pub returns : goal.returns
returns c =
    round_stored_by c.args.answer c.verdict-number.ensures c.unwrap_or-outcome.ensures c.is_some.ensures c.from-made.ensures c.from-cut.ensures c.unwrap_or.ensures

-- `store_sum` meets its contract. Assumes nothing.
use Rattle.juplatsk.proofs.Laws.{sum_stored}
use Rattle.juplatsk.proofs.answers.store_sum.Goals as goal

pub returns : goal.returns
returns c = sum_stored c.args.answer c.verdict-number.ensures c.unwrap_or.ensures

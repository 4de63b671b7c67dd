-- `store_number` meets its contract. Assumes nothing.
use Rattle.juplatsk.proofs.Laws.{number_stored}
use Rattle.juplatsk.proofs.answers.store_number.Goals as goal

pub returns : goal.returns
returns c = number_stored c.args.answer c.verdict-number.ensures c.unwrap_or-value.ensures

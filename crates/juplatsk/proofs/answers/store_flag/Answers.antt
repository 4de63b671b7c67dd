-- `store_flag` meets its contract. Assumes nothing.
use Rattle.juplatsk.proofs.Laws.{flag_stored}
use Rattle.juplatsk.proofs.answers.store_flag.Goals as goal

pub returns : goal.returns
returns c = flag_stored c.args.answer c.verdict-number.ensures c.unwrap_or.ensures c.from.ensures

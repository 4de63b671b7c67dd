-- `search::on_first_side` meets its contract. Assumes nothing.
use Rattle.counts.proofs.search.on_first_side.Goals as goal

pub returns : goal.returns
returns c = rw c.entry.ensures

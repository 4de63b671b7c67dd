-- `search::fresh` meets its contract. Assumes nothing.
use Rattle.counts.proofs.search.fresh.Goals as goal

pub returns : goal.returns
returns c = rw c.infinity-kept.ensures

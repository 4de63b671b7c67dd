-- `augment::recall` meets its contract: a known result is left, another is searched for and stored. Assumes nothing.
use Rattle.counts.proofs.augment.Laws.{recalled}
use Rattle.counts.proofs.augment.recall.Goals as goal

pub returns : goal.returns
returns c = recalled c.requires c.search_from-r.ensures

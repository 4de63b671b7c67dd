-- `augment::start_tables` meets its contract. Assumes nothing.
use Rattle.counts.proofs.augment.Finding.{priced}
use Rattle.counts.proofs.augment.start_tables.Goals as goal

pub returns : goal.returns
returns c = record { priced = priced c.fill_costs.ensures; nothing_known = c.forget.ensures }

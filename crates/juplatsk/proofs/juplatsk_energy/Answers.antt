-- `juplatsk_energy` meets its contract. Assumes nothing.
use Rattle.juplatsk.proofs.Laws.{energy_exported}
use Rattle.juplatsk.proofs.juplatsk_energy.Goals as goal

pub returns : goal.returns
returns c = energy_exported c.energy-total.result c.store_sum.ensures c.energy-total.ensures

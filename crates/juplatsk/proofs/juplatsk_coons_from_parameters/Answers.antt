-- `juplatsk_coons_from_parameters` meets its contract. Assumes nothing.
use Rattle.juplatsk.proofs.Laws.{grid_exported}
use Rattle.juplatsk.proofs.juplatsk_coons_from_parameters.Goals as goal

pub returns : goal.returns
returns c = grid_exported c.coons_from_parameters-made.result c.store_number.ensures c.coons_from_parameters-made.ensures

-- `juplatsk_coons_checked` meets its contract. Assumes nothing.
use Rattle.juplatsk.proofs.Laws.{grid_exported}
use Rattle.juplatsk.proofs.juplatsk_coons_checked.Goals as goal

pub returns : goal.returns
returns c = grid_exported c.coons_checked-made.result c.store_number.ensures c.coons_checked-made.ensures

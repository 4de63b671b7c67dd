-- `juplatsk_lay_region` meets its contract. Assumes nothing.
use Rattle.juplatsk.proofs.Laws.{grid_exported}
use Rattle.juplatsk.proofs.juplatsk_lay_region.Goals as goal

pub returns : goal.returns
returns c = grid_exported c.lay_region-made.result c.store_number.ensures c.lay_region-made.ensures

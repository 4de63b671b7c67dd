-- `juplatsk_mesh_tile` meets its contract. Assumes nothing.
use Rattle.juplatsk.proofs.Laws.{mesh_exported}
use Rattle.juplatsk.proofs.juplatsk_mesh_tile.Goals as goal

pub returns : goal.returns
returns c = mesh_exported c.mesh_tile-made.result c.store_number.ensures c.mesh_tile-made.ensures

-- `tile::fits` meets its contract. Assumes nothing.
use Rattle.std.proofs.Common.{arith}
use Rattle.mesh.proofs.tile.Laws.{product_fits, room_by_quads}
use Rattle.mesh.proofs.tile.fits.Goals as goal

pub overflow_mul-quads : goal.overflow_mul-quads
overflow_mul-quads c = let p = product_fits c.from.result c.from-2.result (omega arith) (omega arith) in omega (arith, p)

pub returns : goal.returns
returns c = rw (c.from.ensures, c.from-2.ensures) (room_by_quads c.args.n_u c.args.n_v c.args.cells.now)

-- `tile::mesh_tile_curves` meets its contract. Assumes nothing.
use Rattle.std.proofs.Common.{refl, ◌*◌, ◌≤◌, length}
use Rattle.base.proofs.BufferLaws.{filled}
use Rattle.mesh.specs.Mesh.{needed_cells}
use Rattle.mesh.proofs.tile.Laws.{no_room, room, made_cells, zeroed_cells, same_cells, few_cells}
use Rattle.mesh.proofs.tile.mesh_tile_curves.Goals as goal
use Rattle.mesh.proofs.tile.mesh_tile_curves.Goals.{After-coons_nodes-made}

pub returns-then-not-fits : goal.returns-then-not-fits
returns-then-not-fits c =
    let a = c.args in
    no_room a.curves.bottom.now a.curves.right.now a.curves.top.now a.curves.left.now a.n_u a.n_v a.points.now a.cells.now _ _ _ _
    c.fits.ensures c.if-not-fits.true refl c.coons_nodes.ensures

-- the room that the grid's own test leaves for the indices
room_at : (c : After-coons_nodes-made) → let a = c.args in
    needed_cells a.n_u a.n_v ≤ length a.cells.now
room_at c =
    let a = c.args in
    room a.curves.bottom.now a.curves.right.now a.curves.top.now a.curves.left.now a.n_u a.n_v a.points.now a.cells.now _ _ _
    c.fits.ensures c.if-not-fits.false c.coons_nodes-made.ensures

pub write_cells-requires : goal.write_cells-requires
write_cells-requires c =
    let a = c.args in
    let few = few_cells a.curves.bottom.now a.curves.right.now a.curves.top.now a.curves.left.now a.n_u a.n_v a.points.now a.cells.now _ _ _
    c.fits.ensures c.if-not-fits.false c.coons_nodes-made.ensures _
    c.in-Ok.is in
    record { few = few.0; rows = few.1; room = room_at (goal.at.write_cells-requires c).After-coons_nodes-made }

pub returns-in-Ok : goal.returns-in-Ok
returns-in-Ok c =
    let a = c.args in
    rw c.in-Ok.is (made_cells a.curves.bottom.now a.curves.right.now a.curves.top.now a.curves.left.now a.n_u a.n_v a.points.now a.cells.now _ _ _
    c.fits.ensures c.if-not-fits.false c.coons_nodes-made.ensures _ _
    c.in-Ok.is c.write_cells.ensures)

pub returns-then-zeroes : goal.returns-then-zeroes
returns-then-zeroes c =
    let a = c.args in
    let zeros = filled 0 (4 * (a.n_v * a.n_u)) a.cells.now c.fill.new.self (room_at (goal.at.returns-then-zeroes c).After-coons_nodes-made) (c.fill.ensures.after (λ y h. h)) in
    zeroed_cells a.curves.bottom.now a.curves.right.now a.curves.top.now a.curves.left.now a.n_u a.n_v a.points.now a.cells.now _ _ _
    c.fits.ensures c.if-not-fits.false c.coons_nodes-made.ensures _ _
    c.in-Err.is c.zeroes.ensures _ c.if-zeroes.true zeros

pub returns-else-zeroes : goal.returns-else-zeroes
returns-else-zeroes c =
    let a = c.args in
    same_cells a.curves.bottom.now a.curves.right.now a.curves.top.now a.curves.left.now a.n_u a.n_v a.points.now a.cells.now _ _ _
    c.fits.ensures c.if-not-fits.false c.coons_nodes-made.ensures _ _
    c.in-Err.is c.zeroes.ensures c.if-zeroes.false

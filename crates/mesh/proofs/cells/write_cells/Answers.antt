-- `cells::write_cells` meets its contract. Before each turn j rows are written. Assumes nothing.
use Rattle.std.proofs.Common.{◌≡◌, ◌∙◌, ap, ℕ, arith}
use Rattle.base.specs.Buffers.{concat_tabulate, splice}
use Rattle.base.proofs.BufferLaws.{splice_none, concat_step}
use Rattle.mesh.specs.Mesh.{row_cells, mesh_cells}
use Rattle.mesh.proofs.cells.Laws.{length_rows, row_fits}
use Rattle.mesh.proofs.cells.write_cells.Goals as goal

pub loop-j-init : goal.loop-j-init
loop-j-init c = splice_none c.args.cells.now 0

pub write_row-requires : goal.write_row-requires
write_row-requires c =
    let f = row_fits c.args.n c.args.m c.loop-j.j c.loop-j-test.true in
    record { few = omega arith; row = omega arith; room = omega (arith, f) }

pub loop-j-preserved : goal.loop-j-preserved
loop-j-preserved c =
    let l = c.loop-j in
    let a = c.args in
    let f = row_fits a.n a.m l.j c.loop-j-test.true in
    let q = length_rows a.n l.j in
    concat_step a.cells.now 0 (row_cells a.n) l.cells l.j _ _ l.invariant (omega (arith, q)) (omega (arith, f)) c.write_row.ensures

pub returns : goal.returns
unfolding mesh_cells
returns c =
    let l = c.loop-j in
    let a = c.args in
    let e : l.j ≡ a.m = omega arith in
    l.invariant ∙ ap (λ (k : ℕ). splice a.cells.now 0 (concat_tabulate (row_cells a.n) 0 k)) e

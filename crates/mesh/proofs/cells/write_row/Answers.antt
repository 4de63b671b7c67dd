-- `cells::write_row` meets its contract. Before each turn i cells are written. Assumes nothing.
use Rattle.std.proofs.Common.{◌≡◌, ◌∙◌, ap, refl, ℕ, ◌+◌, ◌*◌, ◌≤◌, arith}
use Rattle.base.specs.Buffers.{concat_tabulate, splice}
use Rattle.base.proofs.BufferLaws.{splice_none}
use Rattle.mesh.specs.Mesh.{cell, row_cells}
use Rattle.mesh.proofs.cells.Laws.{cell_turn, first_small}
use Rattle.mesh.proofs.cells.write_row.Goals as goal
use Rattle.mesh.proofs.cells.write_row.Goals.{Start}

-- the first index of a row is small
first-few : (c : Start) → c.args.j * (c.args.n + 1) ≤ 1048575
first-few c = first_small c.args.n c.args.j c.requires.few c.requires.row

pub overflow_mul-first : goal.overflow_mul-first
overflow_mul-first c = omega (arith, first-few (goal.at.overflow_mul-first c).Start)

pub loop-i-init : goal.loop-i-init
loop-i-init c = splice_none c.args.cells.now c.args.from

pub overflow_add-low : goal.overflow_add-low
overflow_add-low c = omega (arith, first-few (goal.at.overflow_add-low c).Start)

pub overflow_add-high : goal.overflow_add-high
overflow_add-high c = omega (arith, first-few (goal.at.overflow_add-high c).Start)

pub overflow_add-cells : goal.overflow_add-cells
overflow_add-cells c = omega (arith, first-few (goal.at.overflow_add-cells c).Start)

pub loop-i-preserved : goal.loop-i-preserved
loop-i-preserved c =
    let l = c.loop-i in
    let a = c.args in
    cell_turn a.n a.j a.cells.now a.from l.cells l.i (a.from + 4 * l.i) l.invariant refl (omega arith) (omega arith)

pub returns : goal.returns
unfolding row_cells
returns c =
    let l = c.loop-i in
    let a = c.args in
    let e : l.i ≡ a.n = omega arith in
    l.invariant ∙ ap (λ (k : ℕ). splice a.cells.now a.from (concat_tabulate (cell a.n a.j) 0 k)) e

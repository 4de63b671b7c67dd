use Rattle.std.proofs.Common.{◌≡◌}
use Rattle.base.specs.Buffers.{concat_tabulate, splice}
use Rattle.mesh.specs.Mesh.{row_cells}
use Rattle.mesh.proofs.cells.write_cells.Given as goal

-- j rows are written
abbrev pub invariant-loop-j : goal.invariant-loop-j
invariant-loop-j l = l.cells ≡ splice l.initial.cells 0 (concat_tabulate (row_cells l.n) 0 l.j)

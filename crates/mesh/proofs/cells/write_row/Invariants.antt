use Rattle.std.proofs.Common.{◌≡◌}
use Rattle.base.specs.Buffers.{concat_tabulate, splice}
use Rattle.mesh.specs.Mesh.{cell}
use Rattle.mesh.proofs.cells.write_row.Given as goal

-- i cells are written
abbrev pub invariant-loop-i : goal.invariant-loop-i
invariant-loop-i l = l.cells ≡ splice l.initial.cells l.from (concat_tabulate (cell l.n l.j) 0 l.i)

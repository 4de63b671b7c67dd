use Rattle.curves.specs.Seam.{edge_value}
use Rattle.curves.proofs.Filling.{Filling}
use Rattle.curves.proofs.seam.edge_values.Given as goal

abbrev pub invariant-loop-j : goal.invariant-loop-j
invariant-loop-j l = Filling (edge_value l.breaks l.i l.n) l.from l.n l.initial.out l.j l.out

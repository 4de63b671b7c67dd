use Rattle.curves.proofs.rows.Laws.{NodesTo}
use Rattle.curves.proofs.rows.write_nodes.Given as goal

abbrev pub invariant-loop-i : goal.invariant-loop-i
invariant-loop-i l = NodesTo l.row l.from l.initial.out l.i l.out

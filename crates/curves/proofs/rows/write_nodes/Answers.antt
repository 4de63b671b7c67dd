-- `rows::write_nodes` meets its contract. Before each turn i points are written. Assumes nothing.
use Rattle.std.proofs.Common.{arith}
use Rattle.curves.proofs.rows.Laws.{next_node, nodes_done}
use Rattle.curves.proofs.rows.write_nodes.Goals as goal

pub loop-i-preserved : goal.loop-i-preserved
loop-i-preserved c = next_node c.loop-i.invariant (omega arith) c.write_node.ensures

pub returns : goal.returns
returns c = nodes_done _ c.loop-i.invariant (omega arith)

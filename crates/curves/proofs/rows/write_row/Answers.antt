-- `rows::write_row` meets its contract. Assumes nothing.
use Rattle.curves.proofs.rows.Laws.{nodes_room, nodes_laid}
use Rattle.curves.proofs.rows.write_row.Goals as goal

pub write_nodes-requires : goal.write_nodes-requires
write_nodes-requires c = nodes_room c.requires c.in-Nodes.is

pub returns-in-Nodes : goal.returns-in-Nodes
returns-in-Nodes c = nodes_laid c.in-Nodes.is c.check_row.ensures c.write_nodes.ensures

-- `components::label_edges` meets its contract. Assumes nothing.
use Rattle.counts.proofs.components.Laws.{labelled}
use Rattle.counts.proofs.components.label_edges.Goals as goal

pub join_constraints-requires : goal.join_constraints-requires
join_constraints-requires c = record { few = c.requires.few; long = c.number_constraints.ensures }

pub returns : goal.returns
returns c = labelled c.join_constraints.ensures c.take_marks.ensures

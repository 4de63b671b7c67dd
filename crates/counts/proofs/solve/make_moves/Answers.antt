-- `solve::make_moves` meets its contract: it lends fresh buffers, and labels of the edges. Assumes nothing.
use mathlib.Core.Path.{refl}
use Rattle.counts.proofs.search.Start.{marks_made}
use Rattle.counts.proofs.solve.make_moves.Goals as goal

pub label_edges-requires : goal.label_edges-requires
label_edges-requires c = record { few = c.requires.round.input.few; long = refl }

pub moves_in-requires : goal.moves_in-requires
moves_in-requires c =
    record {
      moves = c.requires;
      labelled = c.label_edges.ensures;
      buffers = record { unmarked = marks_made; path_long = refl; best_long = refl };
      sizes = record { costs_long = refl; allowed_long = refl; kept_long = refl; cut_long = refl; known_long = refl };
    }

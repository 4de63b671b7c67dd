-- `solve::make_round` meets its contract: it lends fresh buffers. Assumes nothing.
use mathlib.Core.Path.{refl}
use Rattle.counts.proofs.search.Start.{marks_made}
use Rattle.counts.proofs.solve.make_round.Goals as goal

pub round_in-requires : goal.round_in-requires
round_in-requires c =
    record {
      round = c.requires;
      buffers = record { unmarked = marks_made; path_long = refl; best_long = refl };
      sizes = record { costs_long = refl; allowed_long = refl; kept_long = refl; cut_long = refl; known_long = refl };
    }

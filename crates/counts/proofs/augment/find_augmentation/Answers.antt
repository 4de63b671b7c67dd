-- `augment::find_augmentation` meets its contract: the choice among all starts, and the winner searched once more. Assumes nothing.
use native.Mathlib.Omega.{arith}
use Rattle.counts.proofs.augment.Laws.{found_nothing, found_winner}
use Rattle.counts.proofs.augment.find_augmentation.Goals as goal

pub returns-then-winner-eq-NO_START : goal.returns-then-winner-eq-NO_START
returns-then-winner-eq-NO_START c = found_nothing c.requires.few c.search_starts.ensures c.choose-choice.ensures c.if-winner-eq-NO_START.true

pub search_from-r-requires : goal.search_from-r-requires
search_from-r-requires c =
    record {
      tables = c.requires.tables;
      below = omega (arith, c.choose-choice.ensures.winner_fits, c.if-winner-eq-NO_START.false);
      buffers = c.search_starts.ensures.buffers;
    }

pub returns : goal.returns
returns c =
    found_winner c.requires.few c.search_starts.ensures c.choose-choice.ensures c.if-winner-eq-NO_START.false
    c.search_from-r.ensures

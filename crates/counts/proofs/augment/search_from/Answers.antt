-- `augment::search_from` meets its contract, by whether the change is allowed. Assumes nothing.
use Rattle.counts.proofs.augment.Laws.{searched, not_searched}
use Rattle.counts.proofs.augment.search_from.Goals as goal

pub run-requires : goal.run-requires
run-requires c =
    let buffers = c.requires.buffers in
    record {
      tables = c.requires.tables;
      small = c.requires.below;
      unmarked = buffers.unmarked;
      path_long = buffers.path_long;
      best_long = buffers.best_long;
    }

pub returns-then-allowed-c : goal.returns-then-allowed-c
returns-then-allowed-c c = searched c.if-allowed-c.true c.run.ensures

pub returns : goal.returns
returns c = not_searched c.if-allowed-c.false c.fresh.ensures c.requires.buffers

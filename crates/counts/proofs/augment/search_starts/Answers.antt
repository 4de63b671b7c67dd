-- `augment::search_starts` meets its contract. Invariant: the starts below c are known. Measure: the starts that are left. Assumes nothing.
use native.Mathlib.Omega.{arith}
use Rattle.counts.proofs.augment.Laws.{known_more, known_fewer}
use Rattle.counts.proofs.augment.search_starts.Goals as goal

pub loop-c-init : goal.loop-c-init
loop-c-init c = record { buffers = c.requires.buffers; remembered = c.requires.remembered; all_known = λ d l. absurd (omega arith) }

pub recall-requires : goal.recall-requires
recall-requires c =
    record {
      searching = record { tables = c.requires.tables; below = omega arith; buffers = c.loop-c.invariant.buffers };
      remembered = c.loop-c.invariant.remembered;
    }

pub loop-c-preserved : goal.loop-c-preserved
loop-c-preserved c = known_more c.loop-c.invariant c.recall.ensures

pub returns : goal.returns
returns c = known_fewer (omega arith) c.loop-c.invariant

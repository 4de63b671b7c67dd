-- `seam::uniform_parameters` meets its contract. Before each turn i values are written. Assumes nothing.
use Rattle.std.proofs.Common.{arith}
use Rattle.curves.specs.Seam.{uniform_parameters}
use Rattle.curves.proofs.Filling.{fill_next, fill_done}
use Rattle.curves.proofs.seam.uniform_parameters.Goals as goal

pub loop-i-preserved : goal.loop-i-preserved
loop-i-preserved c = fill_next c.loop-i.invariant (omega arith) (omega arith) (omega arith) (rw (c.from.ensures, c.from-in-loop-i.ensures))

pub returns : goal.returns
unfolding uniform_parameters
returns c = fill_done c.loop-i.invariant (omega arith)

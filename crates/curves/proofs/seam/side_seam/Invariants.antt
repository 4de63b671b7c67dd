use Rattle.curves.proofs.seam.Laws.{SeamTo}
use Rattle.curves.proofs.seam.side_seam.Given as goal

abbrev pub invariant-loop-i : goal.invariant-loop-i
invariant-loop-i l = SeamTo l.breaks l.counts l.initial.out l.i l.written l.out

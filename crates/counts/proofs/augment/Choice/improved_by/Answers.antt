-- `Choice::improved_by` meets its contract, test by test. Assumes nothing.
use lib.Ieee.{of_bits}
use Rattle.counts.proofs.augment.Choice.improved_by.Goals as goal

pub returns-then-kept : goal.returns-then-kept
unfolding of_bits
returns-then-kept c = rw c.if-kept.true

pub returns : goal.returns
unfolding of_bits
returns c = rw c.if-kept.false

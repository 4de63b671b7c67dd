-- `counts::cost::step` meets its contract. Assumes nothing.
use lib.Ieee.{neg}
use borrow.Author.Rules.{rules}
use Rattle.counts.proofs.cost.step.Goals as goal

pub returns : goal.returns
unfolding neg
returns c = search rules

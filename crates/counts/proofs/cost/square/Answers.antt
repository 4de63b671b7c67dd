-- `counts::cost::square` meets its contract: the definition's one product. Assumes nothing.
use lib.Ieee.{mul}
use Rattle.counts.specs.Cost.{square}
use borrow.Author.Rules.{rules}
use Rattle.counts.proofs.cost.square.Goals as goal

pub returns : goal.returns
unfolding mul square
returns c = search rules

-- `counts::cost::deviation` meets its contract: the definition's two operations. Assumes nothing.
use lib.Ieee.{sub}
use Rattle.counts.specs.Cost.{deviation}
use borrow.Author.Rules.{rules}
use Rattle.counts.proofs.cost.deviation.Goals as goal

pub returns : goal.returns
unfolding sub deviation
returns c = search rules

-- `counts::cost::squared_deviation` meets its contract. Assumes nothing.
use mathlib.Core.Path.{ap, ◌∙◌}
use Rattle.counts.specs.Cost.{square}
use Rattle.counts.proofs.cost.squared_deviation.Goals as goal

pub returns : goal.returns
returns c = c.square.ensures ∙ ap square c.range_deviation.ensures

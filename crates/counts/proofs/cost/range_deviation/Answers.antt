-- `counts::cost::range_deviation` meets its contract, by where s lies. Assumes nothing.
use Rattle.counts.specs.Cost.{range_deviation}
use Rattle.counts.proofs.cost.range_deviation.Goals as goal

pub returns-then-s-least : goal.returns-then-s-least
unfolding range_deviation
returns-then-s-least c = simp (c.deviation.ensures, c.if-s-least.true)

pub returns-then-most-s : goal.returns-then-most-s
unfolding range_deviation
returns-then-most-s c = simp (c.deviation-then-most-s.ensures, c.if-s-least.false, c.if-most-s.true)

pub returns : goal.returns
unfolding range_deviation
returns c = simp (c.if-s-least.false, c.if-most-s.false)

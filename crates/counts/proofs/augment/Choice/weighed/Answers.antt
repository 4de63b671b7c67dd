-- `Choice::weighed` meets its contract, by whether the start improves. Assumes nothing.
use mathlib.Core.Path.{sym, ◌∙◌}
use Rattle.counts.specs.inner.RoundContract.{weighed}
use Rattle.counts.proofs.augment.Choice.weighed.Goals as goal

pub returns-then-improved_by : goal.returns-then-improved_by
unfolding weighed
returns-then-improved_by c = rw (c.either-any.ensures, sym c.improved_by.ensures ∙ c.if-improved_by.true)

pub returns : goal.returns
unfolding weighed
returns c = rw (c.either-any.ensures, sym c.improved_by.ensures ∙ c.if-improved_by.false)

-- `counts::round` meets its contract: an ideal is a range whose ends are equal. Assumes nothing.
use mathlib.Core.Path.{◌∙◌}
use Rattle.counts.proofs.EqualEnds.{round_same}
use Rattle.counts.proofs.round.Goals as goal

pub returns : goal.returns
returns c = c.round_within.ensures ∙ round_same _ _ _ _

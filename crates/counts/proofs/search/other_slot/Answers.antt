-- `search::other_slot` meets its contract, by whether the constraint stands at the edge's first slot. Assumes nothing.
use mathlib.Core.Path.{sym, ◌∙◌}
use Rattle.counts.proofs.search.Slots.{other_first, other_second}
use Rattle.counts.proofs.search.other_slot.Goals as goal

pub returns-then-entry-ci : goal.returns-then-entry-ci
returns-then-entry-ci c = other_second c.requires (sym c.entry.ensures ∙ c.if-entry-ci.true)

pub returns-else-entry-ci : goal.returns-else-entry-ci
returns-else-entry-ci c = other_first c.requires (λ q. c.if-entry-ci.false (c.entry.ensures ∙ q))

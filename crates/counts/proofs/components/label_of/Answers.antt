-- `components::label_of` meets its contract, by whether the edge is in a constraint. Assumes nothing.
use Prim.Native.Nat.{ℕ}
use mathlib.Core.Path.{ap}
use lib.ListN.{get_or}
use Rattle.counts.proofs.components.label_of.Goals as goal

pub returns-then-a-lt-NO_CONSTRAINT : goal.returns-then-a-lt-NO_CONSTRAINT
returns-then-a-lt-NO_CONSTRAINT c = λ h. ap (λ (k : ℕ). get_or c.args.marks.now k 0) c.wide-a.ensures.0

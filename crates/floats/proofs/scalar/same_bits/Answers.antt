-- `scalar::same_bits` meets its contract. Assumes nothing.
use denote.Floats.{passes}
use borrow.Author.Tests.{eqb-true}
use Rattle.floats.proofs.scalar.Laws.{by_bits}
use Rattle.floats.proofs.scalar.same_bits.Goals as goal

pub returns-then-x-y : goal.returns-then-x-y
returns-then-x-y c = λ h. by_bits c.args.x c.args.y (passes _ c.well_formed.0.1) (passes _ c.well_formed.1.0.1) (eqb-true _ _ h)

-- `regions::region::opposite` meets its contract: in each record sides 0 and 1 are opposite to 2 and 3. Assumes nothing.
use native.Mathlib.Omega.{arith}
use Rattle.regions.proofs.region.Pairs.{across_high, across_low}
use Rattle.regions.proofs.region.opposite.Goals as goal

pub returns-then-side-lt2 : goal.returns-then-side-lt2
returns-then-side-lt2 c = across_low _ c.if-side-lt2.true

pub returns-else-side-lt2 : goal.returns-else-side-lt2
returns-else-side-lt2 c = across_high _ (omega (arith, c.if-side-lt2.false))

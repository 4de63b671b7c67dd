-- `search::infinity` meets its contract: the bits are those of +infinity, and of no NaN. Assumes nothing.
use mathlib.Core.Path.{refl}
use Rattle.counts.proofs.search.infinity.Goals as goal

pub float_from_bits-result : goal.float_from_bits-result
unfolding lib.Ieee.nan_bits
float_from_bits-result c = tt

pub returns : goal.returns
unfolding lib.Ieee.of_bits
returns c = refl

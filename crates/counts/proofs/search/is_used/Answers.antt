-- `search::is_used` meets its contract: inside the marks it does not matter what stands for a place outside. Assumes nothing.
use mathlib.Core.Bool.{true, false}
use native.Mathlib.Omega.{arith}
use Rattle.counts.proofs.search.Slots.{get_d_default}
use Rattle.counts.proofs.search.is_used.Goals as goal

pub returns : goal.returns
returns c = get_d_default c.args.used.now c.args.ci false true (omega (arith, c.requires.0, c.requires.1))

use Rattle.std.proofs.Common.{◌≡◌, ◌-◌, length}
use Rattle.base.specs.Tests.{first_of}
use Rattle.curves.specs.Seam.{value_test}
use Rattle.curves.proofs.seam.check_values.Given as goal

abbrev pub invariant-loop-i : goal.invariant-loop-i
invariant-loop-i l = first_of (value_test l.values l.seam) 0 (length l.values) ≡ first_of (value_test l.values l.seam) l.i (length l.values - l.i)

use Rattle.std.proofs.Common.{◌≡◌, ◌-◌}
use Rattle.base.specs.Tests.{first_of}
use Rattle.curves.specs.inner.Rows.{cell_test}
use Rattle.curves.proofs.rows.check_cells.Given as goal

abbrev pub invariant-loop-i : goal.invariant-loop-i
invariant-loop-i l = first_of (cell_test l.low l.high l.j) 0 l.n ≡ first_of (cell_test l.low l.high l.j) l.i (l.n - l.i)

use Rattle.std.proofs.Common.{◌≡◌, [], take, drop}
use Rattle.regions.specs.Accept.{side_test}
use Rattle.regions.proofs.accept.check_side.Given as goal

abbrev pub invariant-loop-i : goal.invariant-loop-i
invariant-loop-i l = side_test l.n l.region l.side [] l.edges ≡ side_test l.n l.region l.side (take l.i l.edges) (drop l.i l.edges)

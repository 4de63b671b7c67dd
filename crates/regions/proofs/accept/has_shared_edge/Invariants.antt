use Rattle.std.proofs.Common.{◌≡◌, drop}
use Rattle.regions.specs.Accept.{shared_edge}
use Rattle.regions.proofs.accept.has_shared_edge.Given as goal

abbrev pub invariant-loop-e : goal.invariant-loop-e
invariant-loop-e l = shared_edge l.a l.b ≡ shared_edge (drop l.e-index l.a) l.b

use Prim.Native.Nat.{ℕ, ◌+◌}
use Rattle.curves.specs.Seam.{part}
use Rattle.curves.proofs.Filling.{Filling}
use Rattle.curves.proofs.seam.uniform_parameters.Given as goal

abbrev pub invariant-loop-i : goal.invariant-loop-i
invariant-loop-i l = Filling (λ (k : ℕ). part k l.n) 0 (l.n + 1) l.initial.out l.i l.out

use mathlib.Core.Path.{◌≡◌}
use mathlib.Core.List.{List}
use Prim.Native.Nat.{ℕ, ◌-◌, ◌<◌}
use lib.ListN.{length, get_or}
use Rattle.regions.specs.Region.{Constraint, incidence}
use Rattle.regions.specs.Accept.{overused_test}
use Rattle.counts.proofs.graph.check_overused.Given as goal

abbrev pub invariant-loop-e : goal.invariant-loop-e
invariant-loop-e l =
    (g : List Constraint) → ((y : ℕ) → y < l.n → get_or l.uses y 0 ≡ length (incidence g y)) → overused_test g 0 l.n ≡ overused_test g l.e (l.n - l.e)

abbrev pub decreases-loop-e : goal.decreases-loop-e
decreases-loop-e l = l.n - l.e

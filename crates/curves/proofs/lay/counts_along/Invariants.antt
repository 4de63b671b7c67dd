use Rattle.std.proofs.Common.{◌≡◌, ℕ, List, ◌+◌, ◌*◌, ◌≤◌, take, drop}
use Rattle.regions.specs.Region.{side_sum}
use Rattle.base.specs.Buffers.{splice}
use Rattle.curves.specs.Lay.{counts_along}
use Rattle.curves.proofs.lay.counts_along.Given as goal

pub record Turn (edges counts out₀ out : List ℕ) (total i : ℕ) : Type 0 where
  pub small : total ≤ i * 4294967295
  pub sum : side_sum counts edges ≡ total + side_sum counts (drop i edges)
  pub written : out ≡ splice out₀ 0 (take i (counts_along counts edges))

abbrev pub invariant-loop-i : goal.invariant-loop-i
invariant-loop-i l = Turn l.edges l.counts l.initial.out l.out l.total l.i

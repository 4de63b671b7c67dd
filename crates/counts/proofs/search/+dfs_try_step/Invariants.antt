-- `search::dfs` and `search::try_step`, which call each other, meet their contracts. Measure of the cycle: twice the number of unused constraints,
-- one more for `try_step`: a crossing marks one before it tries a step. Invariant of the walk along both sides (`Walking`): marks and path as they
-- were, the state as the definition has it after the first j partners. Assumes nothing.
use Prim.Native.Nat.{suc, ◌+◌, ◌-◌, ◌*◌, ◌/◌, ◌%◌}
use lib.ListN.{get_or}
use lib.Dec.{eqb}
use Rattle.counts.specs.Search.{free}
use Rattle.counts.specs.inner.Tables.{path_of}
use Rattle.counts.specs.inner.SearchContract.{signed_in, try_partner_of}
use Rattle.counts.proofs.search.Steps.{Walking}
use Rattle.counts.proofs.search.+dfs_try_step.Given as goal

abbrev pub decreases-dfs : goal.decreases-dfs
decreases-dfs l = 2 * free l.used.now

abbrev pub decreases-try_step : goal.decreases-try_step
decreases-try_step l = 2 * free l.used.now + 1

abbrev pub invariant-dfs-loop-j : goal.invariant-dfs-loop-j
invariant-dfs-loop-j l =
    Walking (try_partner_of l.regions l.costs l.allowed l.limit (get_or l.initial.path 0 0) (suc (free l.initial.used)) l.initial.used (path_of l.depth l.initial.path) (l.slot / 2) l.cost l.ci)
    (signed_in l.regions l.sides (eqb (l.last % 2) 1)) l.depth l.initial.used l.initial.path l.initial.best l.initial.out l.used l.path l.best l.out l.j

abbrev pub decreases-dfs-loop-j : goal.decreases-dfs-loop-j
decreases-dfs-loop-j l = l.total - l.j

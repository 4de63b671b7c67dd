-- `build_graph` meets its contract: the tests that passed give what placing asks for, and with 6 passed the filled tables are the search's.
-- Assumes nothing.
use mathlib.Core.Path.{refl, subst}
use native.Mathlib.Omega.{arith}
use lib.Dec.{T}
use Rattle.base.specs.declared.verdict.Verdict.{Verdict}
use Rattle.base.specs.Refusal.{is_passed}
use Rattle.counts.proofs.graph.Built.{tested, limits, tables}
use Rattle.counts.proofs.graph.build_graph.Goals as goal

pub place_constraints-requires : goal.place_constraints-requires
place_constraints-requires c = record { tested = tested c.requires; incident_empty = c.requires.incident_empty; own_size = c.requires.own_size; uses_zero = refl }

pub check_overused-requires : goal.check_overused-requires
check_overused-requires c = (limits c.requires).edges_few

pub returns : goal.returns
returns c =
    let filled = c.place_constraints.ensures in
    let few = (limits c.requires).edges_few in
    let six = c.check_overused.ensures _ (λ y l. filled.counted y (omega (arith, l, few))) in
    record {
      verdict_is = six;
      tables = λ t. tables c.requires (subst (λ (v : Verdict). T (is_passed v)) six t) filled;
      incident_size = filled.sized.incident_size;
      own_size = filled.sized.own_size;
    }

-- `regions::accept::check_pair` meets its contract. A chain of three tests. Assumes nothing.
use Rattle.std.proofs.Common.{◌∙◌, sym, ap, ◌+◌, Bool}
use Rattle.base.specs.Refusal.{verdict_of, refuse_if, refused}
use Rattle.regions.proofs.accept.Laws.{pair_chain}
use Rattle.base.proofs.TestLaws.{exit_stops, chain_goes_on}
use Rattle.regions.proofs.accept.check_pair.Goals as goal

pub returns-in_err-check_side : goal.returns-in_err-check_side
returns-in_err-check_side c =
    let s = c.args in
    exit_stops _ _ _ c.from_residual.ensures.1 c.in_err-check_side.ensures ∙ sym (pair_chain s.n s.region s.first (s.first + 2) s.a.now s.b.now)

pub returns-in_err-check_side-2 : goal.returns-in_err-check_side-2
returns-in_err-check_side-2 c =
    let s = c.args in
    exit_stops _ _ _ c.from_residual-in_err-check_side-2.ensures.1 c.in_err-check_side-2.ensures
    ∙ chain_goes_on c.in_ok-check_side.ensures
    ∙ sym (pair_chain s.n s.region s.first (s.first + 2) s.a.now s.b.now)

pub returns-then-has_shared_edge : goal.returns-then-has_shared_edge
unfolding verdict_of
returns-then-has_shared_edge c =
    let s = c.args in
    ap (λ (t : Bool). refuse_if t (refused 5 s.region s.first)) (sym c.if-has_shared_edge.true ∙ c.has_shared_edge.ensures)
    ∙ chain_goes_on c.in_ok-check_side-2.ensures
    ∙ chain_goes_on c.in_ok-check_side.ensures
    ∙ sym (pair_chain s.n s.region s.first (s.first + 2) s.a.now s.b.now)

pub returns : goal.returns
returns c =
    let s = c.args in
    ap (λ (t : Bool). refuse_if t (refused 5 s.region s.first)) (sym c.if-has_shared_edge.false ∙ c.has_shared_edge.ensures)
    ∙ chain_goes_on c.in_ok-check_side-2.ensures
    ∙ chain_goes_on c.in_ok-check_side.ensures
    ∙ sym (pair_chain s.n s.region s.first (s.first + 2) s.a.now s.b.now)

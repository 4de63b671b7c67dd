-- `lay::check_edges` meets its contract. Assumes nothing.
use Rattle.std.proofs.Common.{◌≡◌, ◌∙◌, sym, refl, true, false, List, [], ◌∷◌, ℕ, Bool, rules, tests}
use lib.Dec.{ltb}
use Rattle.std.specs.List.{list_all}
use Rattle.std.proofs.lemmas.Iterator.{YieldsList-from_slice}
use Rattle.std.proofs.lemmas.Iterator.Search.{all_from_yields_List}
use Rattle.base.specs.Lists.{all}
use Rattle.base.specs.Refusal.{verdict_of}
use Rattle.curves.proofs.lay.Laws.{edges_by}
use Rattle.curves.proofs.lay.check_edges.Goals as goal
use Rattle.curves.proofs.lay.check_edges.Goals.{After-all}

-- std's words for the same test
list_all_is : {A : Type 0} (p : A → Bool) (l : List A) → list_all p l ≡ all p l
list_all_is p [] = refl
list_all_is p (x ∷ l) = rw (list_all_is p l)

known : (c : After-all) → all (λ (e : ℕ). ltb e c.args.n) c.side.result.now ≡ c.all.result
known c =
    let edges = c.side.result.now in
    sym (all_from_yields_List (λ (e : ℕ). ltb e c.args.n) _ _ _ c.all.ensures.ran (YieldsList-from_slice edges cc) (λ x b q k. search (rules, tests))
    ∙ list_all_is (λ (e : ℕ). ltb e c.args.n) edges)

pub returns-then-all : goal.returns-then-all
returns-then-all c = let a = c.args in edges_by a.region.now a.n a.k true c.side.ensures (known (goal.at.returns-then-all c).After-all ∙ c.if-all.true)

pub returns : goal.returns
unfolding verdict_of
returns c = let a = c.args in edges_by a.region.now a.n a.k false c.side.ensures (known (goal.at.returns c).After-all ∙ c.if-all.false)

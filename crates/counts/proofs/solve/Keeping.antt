-- What is kept from round to round. Edges of one constraint have one label, and so have all edges of a move, since these are joined. A move's
-- component gets new costs, and its starts are forgotten. All other edges are closed under constraints and have the costs that they had; a search
-- never leaves the component of its start, so what is known of their starts still holds. Assumes nothing.
use mathlib.Core.Logic.{◌≢◌, inl, inr}
use mathlib.Core.Path.{◌≡◌, refl, sym, ap, subst, ◌∙◌}
use mathlib.Core.Bool.{Bool, true, false, not, ◌||◌, cond}
use mathlib.Core.List.{List, [], ◌∷◌}
use Prim.Native.Nat.{ℕ, ◌*◌, ◌/◌, ◌%◌, ◌<◌}
use native.Mathlib.Omega.{arith}
use lib.ListN.{length, get_or}
use lib.Dec.{T, eqb, ltb, not_T, eqb→eq, lt→ltb, ltb→lt, nltb→le}
use lib.Ieee.{Float}
use Rattle.base.specs.Lists.{In, member}
use Rattle.regions.specs.Region.{constraint, holds, incidence}
use Rattle.counts.specs.Move.{Change, Joined, same, next, edges, is_allowed, apply_changes}
use Rattle.counts.specs.Cost.{CostModel, Local, by_ranges}
use Rattle.counts.specs.Search.{State, run}
use Rattle.counts.specs.Round.{Found, find_move}
use Rattle.counts.specs.inner.Tables.{the_graph, decoded, encoded, path_of, cost_in, allowed_in, no_constraint, Tables, Entries, changes}
use Rattle.counts.specs.inner.Components.{At, Labels, Outside, Refreshed}
use Rattle.counts.specs.inner.RoundContract.{SolveInput, MayMove, MoveApplied, Result, Ready, search_of, nothing_searched}
use Rattle.regions.specs.Accept.{max_edges}
use Rattle.counts.proofs.Accepted.{Accepted}
use Rattle.counts.proofs.augment.Applying.{apply_length, apply_other}
use Rattle.base.proofs.BoolLaws.{by_cases, clash, or_split, or_left, or_right, eq→eqb}
use Rattle.counts.proofs.Find.{none as found_none, some}
use Rattle.counts.proofs.augment.Finding.{entry_cost, entry_allowed, tested_ok}
use Rattle.counts.proofs.MoveLaws.{link}
use Rattle.regions.proofs.region.Constraints.{holds→incidence}
use Rattle.base.proofs.ListLaws.{in→member, member→in, nothing_in}
use Rattle.counts.proofs.MoveLaws.{edges_in}
use Rattle.counts.proofs.search.Slots.{two_slots, entry_most, in_none, start_in}
use Rattle.counts.proofs.Rounds.{Finds, found}
use Rattle.counts.proofs.search.Alike.{run_same}

-- ---- labels by constraints

module _ {regions incident own labels : List ℕ} {n : ℕ} (tables : Tables regions incident own) (ok : Accepted n (the_graph regions))
    (lab : Labels n incident labels) where
  held_at : (i x : ℕ) → T (holds (constraint (the_graph regions) i) x) → At incident i x
  held_at i x h = elim (two_slots regions incident own tables i x h) [
    | inl p ↦ inl p.0
    | inr p ↦ inr (first_there, p.0)
  ]
    where
      low : x < max_edges
      low = tables.few i x h

      first_there : get_or incident (x * 2) 0 < no_constraint
      first_there =
          by_cases (ltb (get_or incident (x * 2) 0) no_constraint) (λ t. ltb→lt (get_or incident (x * 2) 0) no_constraint t)
          (λ t. let m = entry_most regions incident own tables (x * 2) (omega (arith, low)) in
          let k = nltb→le (get_or incident (x * 2) 0) no_constraint t in
          absurd (nothing_in i (incidence (the_graph regions) x) (holds→incidence (the_graph regions) i x h)
          (in_none regions incident own tables x low (omega (arith, m, k)))))

  inside : (i x : ℕ) → T (holds (constraint (the_graph regions) i) x) → x < n
  inside i x h = ltb→lt x n ((ok.constraint_ok i).inside x h)

  -- edges that one constraint holds have one label
  same_label : (i x y : ℕ) → T (holds (constraint (the_graph regions) i) x) → T (holds (constraint (the_graph regions) i) y)
      → get_or labels x 0 ≡ get_or labels y 0
  same_label i x y hx hy = lab.alike i x y (tables.numbered i x hx) (inside i x hx) (inside i y hy) (held_at i x hx) (held_at i y hy)

  joined_label : (l : List ℕ) (x y : ℕ) → Joined (the_graph regions) l x y → get_or labels x 0 ≡ get_or labels y 0
  joined_label l x y (same _) = refl
  joined_label l x z (next _ y _ j m s) = let k = link (the_graph regions) y z s in joined_label l x y j ∙ same_label k.0 y z k.1 k.2

  -- ---- results outside of one component

  half : (y : ℕ) (s : Bool) → encoded y s / 2 ≡ y
  half y true = omega arith
  half y false = omega arith

  module _ {component : ℕ} {counts : List ℕ} {model : CostModel} {costs costs' : List Float} {allowed allowed' known known' : List Bool}
      (fresh : Refreshed n labels component counts model costs allowed known costs' allowed' known') where
    abbrev untouched : ℕ → Bool
    untouched y = not (ltb y n) || not (eqb (get_or labels y 0) component)

    out : (y : ℕ) → T (untouched y) → Outside n labels component y
    out y t l q = elim (or_split (not (ltb y n)) (not (eqb (get_or labels y 0) component)) t) [
      | inl u ↦ clash (ltb y n) (lt→ltb y n l) u
      | inr u ↦ clash (eqb (get_or labels y 0) component) (eq→eqb (get_or labels y 0) component q) u
    ]

    back : (y : ℕ) → Outside n labels component y → T (untouched y)
    back y o =
        let here = eqb (get_or labels y 0) component in
        by_cases (ltb y n)
        (λ t. or_right (not (ltb y n)) (not here) (not_T here (λ u. o (ltb→lt y n t) (eqb→eq (get_or labels y 0) component u))))
        (λ t. or_left (not (ltb y n)) (not here) t)

    closed : (i x y : ℕ) → T (holds (constraint (the_graph regions) i) x) → T (holds (constraint (the_graph regions) i) y) → T (untouched x)
        → T (untouched y)
    closed i x y hx hy u = back y (λ l q. out x u (inside i x hx) (same_label i x y hx hy ∙ q))

    pub cost_same : (y : ℕ) (s : Bool) → Outside n labels component y → cost_in costs' y s ≡ cost_in costs y s
    cost_same y s o = fresh.same_cost (encoded y s) (subst (λ (k : ℕ). Outside n labels component k) (sym (half y s)) o)

    pub may_same : (y : ℕ) (s : Bool) → Outside n labels component y → allowed_in allowed' y s ≡ allowed_in allowed y s
    may_same y s o = fresh.same_allowed (encoded y s) (subst (λ (k : ℕ). Outside n labels component k) (sym (half y s)) o)

    pub search_same : (limit c : ℕ) → Outside n labels component (c / 2)
        → search_of regions costs allowed limit c ≡ search_of regions costs' allowed' limit c
    unfolding search_of
    search_same limit c o =
        let s = eqb (c % 2) 1 in
        ap (λ (b : Bool). cond b (run (the_graph regions) (cost_in costs) (allowed_in allowed) limit (c / 2) s) nothing_searched)
        (sym (may_same (c / 2) s o))
        ∙ ap (λ (st : State). cond (allowed_in allowed' (c / 2) s) st nothing_searched)
        (run_same (the_graph regions) (cost_in costs) (cost_in costs') (allowed_in allowed) (allowed_in allowed') limit (c / 2) s untouched closed
        (λ y t u. sym (cost_same y t (out y u))) (λ y t u. sym (may_same y t (out y u))) (back (c / 2) o))

-- ---- the move found touches one component

pub one_component : (model : CostModel) (limit : ℕ) {regions incident own labels : List ℕ} {least most : List Float} {counts : List ℕ}
    → SolveInput regions incident own least most counts → Labels (length counts) incident labels → (z w : Change)
    → In z (find_move (the_graph regions) model counts limit).best → In w (find_move (the_graph regions) model counts limit).best
    → get_or labels z.0 0 ≡ get_or labels w.0 0
one_component model limit {regions} {labels = labels} {counts = counts} input lab z w iz iw = go (found (the_graph regions) counts ok model limit)
  where
    ok : Accepted (length counts) (the_graph regions)
    ok = tested_ok input

    b : Found
    b = find_move (the_graph regions) model counts limit

    changed : (v : Change) → In v b.best → T (member v.0 (edges b.best))
    changed v i = in→member v.0 (edges b.best) (edges_in v b.best i)

    go : Finds (the_graph regions) counts ok model limit b → get_or labels z.0 0 ≡ get_or labels w.0 0
    go (found_none k e) = absurd (nothing_in z b.best iz e)
    go (some r c l) = joined_label input.tables ok lab (edges b.best) z.0 w.0
        (r.move.joined z.0 w.0 (changed z iz) (changed w iw))

-- ---- the tables after a move

module _ {regions incident own labels : List ℕ} {least most : List Float} {counts after : List ℕ} {model : CostModel} {limit component : ℕ}
    {costs costs' : List Float} {allowed allowed' : List Bool} {kept : List Float} {cut known known' : List Bool} (r : List Change)
    (local : Local model) (input : SolveInput regions incident own least most counts) (lab : Labels (length counts) incident labels)
    (ready : Ready regions model limit counts costs allowed kept cut known) (made : after ≡ apply_changes r counts)
    (touched : (z : Change) → In z r → get_or labels z.0 0 ≡ component)
    (fresh : Refreshed (length counts) labels component after model costs allowed known costs' allowed' known') where
  in_change : (x : ℕ) (l : List Change) → In x (edges l) → (z : Change) × In z l × (x ≡ z.0)
  in_change x [] i = absurd i
  in_change x (z ∷ l) (inl e) = (z, inl refl, e)
  in_change x (z ∷ l) (inr i) = let k = in_change x l i in (k.0, inr k.1, k.2)

  count_same : (y : ℕ) → get_or labels y 0 ≢ component → get_or after y 0 ≡ get_or counts y 0
  count_same y n =
      ap (λ (l : List ℕ). get_or l y 0) made
      ∙ apply_other r counts y
      (not_T (member y (edges r))
      (λ t. let k = in_change y r (member→in y (edges r) t) in n (ap (λ (x : ℕ). get_or labels x 0) k.2 ∙ touched k.0 k.1)))

  inside_still : (y : ℕ) → y < length after → y < length counts
  inside_still y h = let e = ap length made ∙ apply_length r counts in omega (arith, h, e)

  -- an edge of the component has new entries, and any other those that it had
  by_label : {P : Type 0} (y : ℕ) → y < length after → (Entries after model costs' allowed' y → P) → (get_or labels y 0 ≢ component → P) → P
  by_label y h yes-it-is no-it-is-not =
      by_cases (eqb (get_or labels y 0) component)
      (λ t. yes-it-is (fresh.fresh y (inside_still y h) (eqb→eq (get_or labels y 0) component t)))
      (λ t. no-it-is-not (λ q. clash (eqb (get_or labels y 0) component) (eq→eqb (get_or labels y 0) component q) t))

  cost_now : (y : ℕ) (s : Bool) → y < length after → cost_in costs' y s ≡ model after y s
  cost_now y s h =
      by_label y h (entry_cost s)
      (λ n. cost_same input.tables (tested_ok input) lab fresh y s (λ l. n)
      ∙ ready.priced.cost_is y s (inside_still y h)
      ∙ sym (local counts after y s (count_same y n)))

  may_now : (y : ℕ) (s : Bool) → y < length after → allowed_in allowed' y s ≡ is_allowed after y s
  may_now y s h =
      by_label y h (entry_allowed s)
      (λ n. may_same input.tables (tested_ok input) lab fresh y s (λ l. n)
      ∙ ready.priced.allowed_is y s (inside_still y h)
      ∙ ap (λ (k : ℕ). s || ltb 0 k) (sym (count_same y n)))

  still_right : (c : ℕ) → c < changes → get_or known' c false ≡ true → Result regions costs' allowed' limit c kept cut
  still_right c h q =
      let k = fresh.still_known c q in
      let old = ready.remembered.right c h k.1 in
      let e = search_same input.tables (tested_ok input) lab fresh limit c k.0 in
      record { kept_is = old.kept_is ∙ ap (λ (st : State). st.kept) e; cut_is = old.cut_is ∙ ap (λ (st : State). st.cut) e }

  pub ready_again : Ready regions model limit after costs' allowed' kept cut known'
  ready_again =
      record {
        priced = record { costs_long = fresh.costs_long; allowed_long = fresh.allowed_long; cost_is = cost_now; allowed_is = may_now };
        remembered =
            record {
              kept_long = ready.remembered.kept_long;
              cut_long = ready.remembered.cut_long;
              known_long = fresh.known_long;
              right = still_right;
            };
      }

-- ---- make_move

-- the edge of the first change
pub first_below : {counts : List ℕ} {least most : List Float} {best : List ℕ} {len : ℕ} {costs : List Float} {allowed known : List Bool}
    → MayMove counts least most best len costs allowed known → get_or best 0 0 / 2 < length counts
first_below {best = best} {len = len} may =
    let h = may.some in
    let l = may.apply.best_long in
    may.apply.can.below (decoded (get_or best 0 0)) (start_in best len (omega arith) (omega arith))

-- what the code refreshes is the component of the move's first change
pub move_done : {counts : List ℕ} {least most : List Float} {labels best : List ℕ} {len c : ℕ} {after : List ℕ} {costs costs' : List Float}
    {allowed allowed' known known' : List Bool} → after ≡ apply_changes (path_of len best) counts → c ≡ get_or best 0 0
    → Refreshed (length after) labels (get_or labels (c / 2) 0) after (by_ranges least most) costs allowed known costs' allowed' known'
    → MoveApplied counts least most labels best len costs allowed known after costs' allowed' known'
move_done {counts} {least} {most} {labels} {best} {len} {c} {after} {costs} {costs'} {allowed} {allowed'} {known} {known'} made q f =
    record {
      made = made;
      refreshed = subst (λ (n : ℕ). At_component n (get_or best 0 0)) (ap length made ∙ apply_length (path_of len best) counts)
          (subst (At_component (length after)) q f);
    }
  where
    At_component : ℕ → ℕ → Type 0
    At_component n k = Refreshed n labels (get_or labels (k / 2) 0) after (by_ranges least most) costs allowed known costs' allowed' known'

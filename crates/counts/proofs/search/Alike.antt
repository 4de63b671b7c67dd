-- What a search depends on, in one induction: two searches on two graphs, with two edge costs, two tests of allowed changes, two lists of marks
-- and two amounts of fuel, but one start and limit, end in the same state, if all of these agree where the search can come.
-- Where it can come is a set K of edges that has the start in it and, with one edge of a constraint, all others (`closed`). A constraint that holds
-- an edge of K may have another number in the second graph. `number` gives it: it maps the incidences of each edge of K onto those in the second
-- graph, in their order, and takes no two of these constraints to one. Under both numbers stand constraints that a search cannot tell apart
-- (`Alike`). Marks agree where they agree on these constraints. Of fuel there is to be more than there are unmarked constraints, on either side.
-- PROOF IDEA. By induction on the first fuel, following the definition of the search. Both enter the same edge x of K. Its unmarked constraints
-- are the same but for their numbers, and are visited in one order. In each, the same changed edges stand, so both cross it, or close a loop
-- there, or turn away. Where they cross it they mark it, each under its own number, after which the marks still agree, since no other constraint has
-- that number; one constraint less is unmarked; and they try the same partners, which are in K again. A partner may be stepped to in both or
-- in neither: its other constraints are told apart by their numbers, and are marked alike. A path is complete by the marks of constraints of edges
-- in K. Wherever a cost is added, it is the cost of an edge of K.
-- What follows: other costs (`run_same`: tables serve for lists, K by a bound on the edges; an earlier result still holds in a component that no
-- move has touched, K by its label); other marks and fuel (`dfs_like`: those of the code serve for the definition's); another graph, up to
-- solve (`find_move_alike`, `solve_zeros_alike`). Assumes nothing.
use mathlib.Core.Logic.{inl, inr}
use mathlib.Core.Path.{◌≡◌, refl, sym, ap, ◌∙◌, fun_ext}
use mathlib.Core.Bool.{Bool, true, false, not, ◌&&◌, cond}
use mathlib.Core.List.{List, [], ◌∷◌, ◌++◌, map, map-id}
use Prim.Native.Nat.{ℕ, zero, suc, ◌≤◌, ◌<◌}
use native.Mathlib.Decide.{ℕ_discrete}
use native.Mathlib.Omega.{arith}
use lib.ListN.{length, set, replicate, get_or-replicate}
use lib.Seq.{get_or-set_other}
use lib.Dec.{T, leb, eqb, eqb→eq}
use lib.Ieee.{Float, add, binary64}
use lib.Ieee.Fits.{and_r}
use Rattle.base.specs.Lists.{In, all, filter, differs}
use Rattle.regions.specs.Region.{Constraint, constraint, holds, incidence}
use Rattle.counts.specs.Move.{Change, EdgeCost, select, balances, is_allowed, apply_changes}
use Rattle.counts.specs.Cost.{CostModel}
use Rattle.counts.specs.Search.{State, Go, is_used, free, record_path, partners, others_changed, may_step, try_step}
use Rattle.counts.specs.Search.{visit, visit_by, enter, enter_by, dfs, entered, run, fresh}
use Rattle.counts.specs.Round.{Found, weigh, starts, nothing_found, try_start, find_augmentation, find_move, solve_by, solve_from, max_moves, solve_zeros}
use Rattle.base.proofs.BoolLaws.{by_truth, T_true, same→eqb, ne→eqb}
use Rattle.base.proofs.ListLaws.{in_snoc, filter_in, any_map, all_map, filter_map, each_map, all_same, each_same}
use Rattle.regions.proofs.region.Constraints.{incidence→holds, holds_numbered}
use Rattle.counts.proofs.MoveLaws.{in_select, partner_holds}
use Rattle.counts.proofs.search.Used.{free_set, free_replicate, set_used}

and_same : (b c c' : Bool) → (T b → c ≡ c') → b && c ≡ b && c'
and_same true c c' h = h tt
and_same false c c' h = refl

-- ---- what is to agree

-- constraints that a search cannot tell apart: they hold the same edges, one edge brings the same partners, the same changes balance
pub record Alike (c c' : Constraint) : Type 0 where
  pub holding : (x : ℕ) → holds c x ≡ holds c' x
  pub partner : (x : ℕ) (s : Bool) → T (holds c x) → partners c x s ≡ partners c' x s
  pub evens : (z w : Change) → T (holds c z.0) → T (holds c w.0) → balances c z w ≡ balances c' z w

pub alike_itself : (c : Constraint) → Alike c c
alike_itself c = record { holding = λ x. refl; partner = λ x s h. refl; evens = λ z w h k. refl }

-- constraint i of g holds an edge of K
abbrev pub Meets : List Constraint → (ℕ → Bool) → ℕ → Type 0
Meets g K i = (x : ℕ) × T (holds (constraint g i) x) × T (K x)

-- constraint i of g is constraint `number i` of g', where it holds an edge of K
pub record AlikeGraphs (g g' : List Constraint) (K : ℕ → Bool) (number : ℕ → ℕ) : Type 0 where
  pub closed : (i x y : ℕ) → T (holds (constraint g i) x) → T (holds (constraint g i) y) → T (K x) → T (K y)
  pub numbered : (x : ℕ) → T (K x) → incidence g' x ≡ map number (incidence g x)
  pub told_apart : (i j : ℕ) → Meets g K i → Meets g K j → number i ≡ number j → i ≡ j
  pub alike : (i : ℕ) → Meets g K i → Alike (constraint g i) (constraint g' (number i))

-- and edges of K cost the same, and may be changed alike
pub record AlikeSearches (g g' : List Constraint) (edge_cost edge_cost' : EdgeCost) (allowed allowed' : ℕ → Bool → Bool) (K : ℕ → Bool) (number : ℕ → ℕ) : Type 0 where
  pub graphs : AlikeGraphs g g' K number
  pub same_cost : (y : ℕ) (s : Bool) → T (K y) → edge_cost y s ≡ edge_cost' y s
  pub same_allowed : (y : ℕ) (s : Bool) → T (K y) → allowed y s ≡ allowed' y s

-- ---- the induction

module _ {g g' : List Constraint} {edge_cost edge_cost' : EdgeCost} {allowed allowed' : ℕ → Bool → Bool} {K : ℕ → Bool} {number : ℕ → ℕ}
    (like : AlikeSearches g g' edge_cost edge_cost' allowed allowed' K number) (limit x0 : ℕ) (s0 : Bool) where
  open like.graphs use {closed, numbered, told_apart, alike}

  meets : (i x : ℕ) → T (K x) → In i (incidence g x) → Meets g K i
  meets i x k m = (x, incidence→holds g i x m, k)

  -- marks that agree
  abbrev Agree : List Bool → List Bool → Type 0
  Agree u v = (i : ℕ) → Meets g K i → is_used u i ≡ is_used v (number i)

  -- a path in K
  abbrev Within : List Change → Type 0
  Within path = (z : Change) → In z path → T (K z.0)

  -- marks still agree once both have marked a constraint, each under its own number
  agree_set : (u v : List Bool) (i : ℕ) → Meets g K i → Agree u v → Agree (set u i true) (set v (number i) true)
  agree_set u v i m a j n = elim (ℕ_discrete j i) [
    | yes e ↦ rw e (T_true (is_used (set u i true) i) (set_used u i) ∙ sym (T_true (is_used (set v (number i) true) (number i)) (set_used v (number i))))
    | no d ↦ get_or-set_other u i j true true d ∙ a j n ∙ sym (get_or-set_other v (number i) (number j) true true (λ e. d (told_apart j i n m e)))
  ]

  differs_same : (i j : ℕ) → Meets g K i → Meets g K j → differs i j ≡ differs (number i) (number j)
  differs_same i j m n = elim (ℕ_discrete j i) [
    | yes e ↦ rw e (ap not (same→eqb i ∙ sym (same→eqb (number i))))
    | no d ↦ ap not (ne→eqb j i d ∙ sym (ne→eqb (number j) (number i) (λ e. d (told_apart j i n m e))))
  ]

  record_same : (u v : List Bool) (path : List Change) (t : Float) (st : State) → Agree u v → Within path → record_path g u path t st ≡ record_path g' v path t st
  unfolding record_path
  record_same u v path t st a p =
      rw (all_same (λ (z : Change). all (is_used u) (incidence g z.0)) (λ (z : Change). all (is_used v) (incidence g' z.0)) path (λ z m.
      rw numbered (all_map number (is_used u) (is_used v) (incidence g z.0) (λ i k. a i (meets i z.0 (p z m) k)))))

  -- what goes on one level down is the same, from every edge of K, with marks that agree and fuel above the unmarked constraints
  abbrev Same : ℕ → ℕ → Go → Go → Type 0
  Same m m' go go' = (u v : List Bool) (path : List Change) (x : ℕ) (s : Bool) (t : Float) (st : State) → Agree u v → Within path → T (K x) → free u < m → free v < m'
      → go u path x s t st ≡ go' v path x s t st

  may_same : (u v : List Bool) (path : List Change) (i : ℕ) (z : Change) → Agree u v → Meets g K i → T (K z.0)
      → may_step g edge_cost allowed limit x0 s0 u path i z ≡ may_step g' edge_cost' allowed' limit x0 s0 v path (number i) z
  may_same u v path i z a n k =
      rw (
        like.same_allowed z.0 z.1 k,
        numbered,
        any_map number (λ (j : ℕ). differs i j && is_used u j) (λ (j : ℕ). differs (number i) j && is_used v j) (incidence g z.0) (λ j o.
            let w = meets j z.0 k o in
            rw (differs_same i j n w, a j w)),
      )

  module _ (m m' : ℕ) (go go' : Go) (same : Same m m' go go') where
    try_step_same : (u v : List Bool) (path : List Change) (t : Float) (i : ℕ) (z : Change) (st : State) → Agree u v → Within path → Meets g K i → T (K z.0)
        → free u < m → free v < m'
        → try_step g edge_cost allowed limit x0 s0 go u path t i z st ≡ try_step g' edge_cost' allowed' limit x0 s0 go' v path t (number i) z st
    unfolding try_step
    try_step_same u v path t i z st a p n k f f' =
        rw (may_same u v path i z a n k, like.same_cost z.0 z.1 k)
        (by_truth (may_step g' edge_cost' allowed' limit x0 s0 v path (number i) z)
        (λ e. rw e (same u v (path ++ z ∷ []) z.0 z.1 (add binary64 t (edge_cost' z.0 z.1)) st a longer k f f'))
        (λ e. rw e))
      where
        longer : Within (path ++ z ∷ [])
        longer w o = elim (in_snoc w path z o) [ inl j ↦ p w j | inr e ↦ rw e k ]

    module _ (u v : List Bool) (path : List Change) (x : ℕ) (s : Bool) (t : Float) (a : Agree u v) (p : Within path) (k : T (K x)) (f : free u ≤ m) (f' : free v ≤ m') where
      visit_same : (i : ℕ) (st : State) → T (holds (constraint g i) x) → T (not (is_used u i))
          → visit g edge_cost allowed limit x0 s0 go u path x s t i st ≡ visit g' edge_cost' allowed' limit x0 s0 go' v path x s t (number i) st
      unfolding visit
      visit_same i st held un =
          by (others_changed (constraint g i) x path) (λ w j.
          and_r (differs x w.0) (holds (constraint g i) w.0) (in_select (λ (y : ℕ). differs x y && holds (constraint g i) y) w path j).1)
          ∙ ap (λ (h : ℕ → Bool). visit_by g' edge_cost' allowed' limit x0 s0 go' v path x s t (number i) (select (λ (y : ℕ). differs x y && h y) path) st)
          (fun_ext c.holding)
        where
          n : Meets g K i
          n = (x, held, k)

          c : Alike (constraint g i) (constraint g' (number i))
          c = alike i n

          a' : Agree (set u i true) (set v (number i) true)
          a' = agree_set u v i n a

          un' : T (not (is_used v (number i)))
          un' = rw (a i n) at un

          even : (w : Change) → T (holds (constraint g i) w.0) → T (eqb w.0 x0)
              → balances (constraint g i) (x0, s0) (x, s) ≡ balances (constraint g' (number i)) (x0, s0) (x, s)
          even w hw e = c.evens (x0, s0) (x, s) (rw (eqb→eq w.0 x0 e) at hw) held

          by : (os : List Change) → ((w : Change) → In w os → T (holds (constraint g i) w.0))
              → visit_by g edge_cost allowed limit x0 s0 go u path x s t i os st ≡ visit_by g' edge_cost' allowed' limit x0 s0 go' v path x s t (number i) os st
          by [] h =
              rw (← c.partner x s held)
              (each_same _ _ (partners (constraint g i) x s) (λ z j st'.
              try_step_same (set u i true) (set v (number i) true) path t i z st' a' p n (closed i x z.0 held (partner_holds (constraint g i) x s z j) k)
              (omega (arith, free_set u i un)) (omega (arith, free_set v (number i) un'))) st)
          by (w ∷ []) h =
              rw (and_same (eqb w.0 x0) (balances (constraint g i) (x0, s0) (x, s)) (balances (constraint g' (number i)) (x0, s0) (x, s)) (even w (h w (inl refl))))
              (by_truth (eqb w.0 x0 && balances (constraint g' (number i)) (x0, s0) (x, s))
              (λ b. rw b (record_same (set u i true) (set v (number i) true) path t st a' p))
              (λ b. rw b))
          by (w ∷ y ∷ r) h = refl

      enter_same : (st : State) → enter g edge_cost allowed limit x0 s0 go u path x s t st ≡ enter g' edge_cost' allowed' limit x0 s0 go' v path x s t st
      unfolding enter
      enter_same st =
          rw (
            by (filter (λ (i : ℕ). not (is_used u i)) (incidence g x)) (λ i o. filter_in (λ (i : ℕ). not (is_used u i)) i (incidence g x) o),
            filter_map number (λ (i : ℕ). not (is_used u i)) (λ (i : ℕ). not (is_used v i)) (incidence g x) (λ i o. ap not (a i (meets i x k o))),
            ← numbered,
          )
        where
          by : (is : List ℕ) → ((i : ℕ) → In i is → In i (incidence g x) × T (not (is_used u i)))
              → enter_by g edge_cost allowed limit x0 s0 go u path x s t is (entered st)
              ≡ enter_by g' edge_cost' allowed' limit x0 s0 go' v path x s t (map number is) (entered st)
          by [] h = record_same u v path t (entered st) a p
          by (i ∷ is) h = each_map number _ _ (i ∷ is) (λ j o st'. visit_same j st' (incidence→holds g j x (h j o).0) (h j o).1) (entered st)

  -- any fuel above the unmarked constraints
  pub dfs_alike : (m m' : ℕ) → Same m m' (dfs g edge_cost allowed limit x0 s0 m) (dfs g' edge_cost' allowed' limit x0 s0 m')
  unfolding dfs
  dfs_alike zero m' u v path x s t st a p k f f' = absurd (omega arith)
  dfs_alike (suc m) zero u v path x s t st a p k f f' = absurd (omega arith)
  dfs_alike (suc m) (suc m') u v path x s t st a p k f f' =
      by_truth (leb limit st.expansions)
      (λ e. rw e)
      (λ e. rw e
      (enter_same m m' (dfs g edge_cost allowed limit x0 s0 m) (dfs g' edge_cost' allowed' limit x0 s0 m') (dfs_alike m m') u v path x s t a p k
      (omega arith) (omega arith) st))

  -- the whole search from an edge of K: at the start no constraint is marked on either side
  pub run_alike : T (K x0) → run g edge_cost allowed limit x0 s0 ≡ run g' edge_cost' allowed' limit x0 s0
  unfolding run
  run_alike k =
      rw (like.same_cost x0 s0 k)
      (dfs_alike (suc (length g)) (suc (length g')) (replicate (length g) false) (replicate (length g') false) ((x0, s0) ∷ []) x0 s0 (edge_cost' x0 s0)
      (fresh g edge_cost allowed limit x0 s0) none_marked (λ z o. elim o [ inl e ↦ rw e k | inr j ↦ absurd j ]) k
      (omega (arith, free_replicate (length g))) (omega (arith, free_replicate (length g'))))
    where
      none_marked : Agree (replicate (length g) false) (replicate (length g') false)
      none_marked i n =
          let held' = rw ((alike i n).holding n.0) at n.1 in
          rw (
            get_or-replicate (length g) i false true (holds_numbered g i n.0 n.1),
            get_or-replicate (length g') (number i) false true (holds_numbered g' (number i) n.0 held'),
          )

-- ---- one graph

-- a graph is alike to itself
alike_graph : (g : List Constraint) (K : ℕ → Bool)
    → ((i x y : ℕ) → T (holds (constraint g i) x) → T (holds (constraint g i) y) → T (K x) → T (K y)) → AlikeGraphs g g K (λ i. i)
alike_graph g K closed =
    record { closed = closed; numbered = λ x k. sym (map-id (incidence g x)); told_apart = λ i j m n e. e; alike = λ i m. alike_itself (constraint g i) }

-- a search depends on what the edges joined to its start cost, and on nothing else
module _ (g : List Constraint) (edge_cost edge_cost' : EdgeCost) (allowed allowed' : ℕ → Bool → Bool) (limit x0 : ℕ) (s0 : Bool) (K : ℕ → Bool)
    (closed : (i x y : ℕ) → T (holds (constraint g i) x) → T (holds (constraint g i) y) → T (K x) → T (K y))
    (same_cost : (y : ℕ) (s : Bool) → T (K y) → edge_cost y s ≡ edge_cost' y s) (same_allowed : (y : ℕ) (s : Bool) → T (K y) → allowed y s ≡ allowed' y s) where
  pub run_same : T (K x0) → run g edge_cost allowed limit x0 s0 ≡ run g edge_cost' allowed' limit x0 s0
  run_same = run_alike (record { graphs = alike_graph g K closed; same_cost = same_cost; same_allowed = same_allowed }) limit x0 s0

-- marks that agree on every constraint that holds an edge, and any fuel above the unmarked constraints, do
pub dfs_like : (g : List Constraint) (edge_cost : EdgeCost) (allowed : ℕ → Bool → Bool) (limit x0 : ℕ) (s0 : Bool) (m m' : ℕ)
    (u v : List Bool) (path : List Change) (x : ℕ) (s : Bool) (t : Float) (st : State)
    → ((i y : ℕ) → T (holds (constraint g i) y) → is_used u i ≡ is_used v i) → free u < m → free v < m'
    → dfs g edge_cost allowed limit x0 s0 m u path x s t st ≡ dfs g edge_cost allowed limit x0 s0 m' v path x s t st
dfs_like g edge_cost allowed limit x0 s0 m m' u v path x s t st a f f' =
    dfs_alike (record { graphs = alike_graph g (λ x. true) (λ i x y h h' k. tt); same_cost = λ y s k. refl; same_allowed = λ y s k. refl }) limit x0 s0 m m' u v path x s t st
    (λ i n. a i n.0 n.1) (λ z o. tt) tt f f'

-- ---- two graphs that are alike for every edge: rounds and solves

abbrev pub every_edge : ℕ → Bool
every_edge x = true

module _ {g g' : List Constraint} {number : ℕ → ℕ} (like : AlikeGraphs g g' every_edge number) where
  start_alike : (edge_cost : EdgeCost) (allowed : ℕ → Bool → Bool) (limit : ℕ) (z : Change) (b : Found)
      → try_start g edge_cost allowed limit z b ≡ try_start g' edge_cost allowed limit z b
  unfolding try_start
  start_alike edge_cost allowed limit z b =
      ap (λ (st : State). cond (allowed z.0 z.1) (weigh st) (λ b. b) b)
      (run_alike {edge_cost = edge_cost} {allowed = allowed} (record { graphs = like; same_cost = λ y s k. refl; same_allowed = λ y s k. refl }) limit z.0 z.1 tt)

  pub find_alike : (edge_cost : EdgeCost) (allowed : ℕ → Bool → Bool) (limit n : ℕ)
      → find_augmentation g edge_cost allowed limit n ≡ find_augmentation g' edge_cost allowed limit n
  unfolding find_augmentation
  find_alike edge_cost allowed limit n =
      each_same (try_start g edge_cost allowed limit) (try_start g' edge_cost allowed limit) (starts 0 n) (λ z i b. start_alike edge_cost allowed limit z b) nothing_found

  pub find_move_alike : (costs : CostModel) (counts : List ℕ) (limit : ℕ) → find_move g costs counts limit ≡ find_move g' costs counts limit
  unfolding find_move
  find_move_alike costs counts limit = find_alike (costs counts) (is_allowed counts) limit (length counts)

  pub solve_from_alike : (costs : CostModel) (limit m k : ℕ) (counts : List ℕ) → solve_from g costs limit m k counts ≡ solve_from g' costs limit m k counts
  unfolding solve_from
  solve_from_alike costs limit zero k counts = rw (find_move_alike costs counts limit)
  solve_from_alike costs limit (suc m) k counts = rw (find_move_alike costs counts limit) (by (find_move g' costs counts limit).best (solve_from_alike costs limit m (suc k)))
    where
      by : (r : List Change) → ((c : List ℕ) → solve_from g costs limit m (suc k) c ≡ solve_from g' costs limit m (suc k) c)
          → solve_by (suc m) k counts r (solve_from g costs limit m (suc k)) ≡ solve_by (suc m) k counts r (solve_from g' costs limit m (suc k))
      by [] h = refl
      by (z ∷ r) h = h (apply_changes (z ∷ r) counts)

  pub solve_zeros_alike : (costs : CostModel) (limit n : ℕ) → solve_zeros g costs limit n ≡ solve_zeros g' costs limit n
  unfolding solve_zeros
  solve_zeros_alike costs limit n = solve_from_alike costs limit max_moves 0 (replicate n 0)

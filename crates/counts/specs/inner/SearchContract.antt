-- What the functions of the search are lent and what they leave, as the records that their contracts cite. Assumes nothing.
-- Two facts stand in for the marks of visited edges, the counters and the test of completeness that a plain search keeps:
-- `away`, an unused constraint other than `home` holds no changed edge besides the last one, and `mine`, among these constraints only
-- the one to cross holds the last edge.
-- A function is lent only what its body reads. Where its outcome means something for records, tables or marks that it does not read, its contract
-- says so for all of them that fit what it is lent (`SlotOf`, `BalancesThere`, `Ended`, `Closed`).
use Rattle.std.specs.Prelude.{◌≢◌, ◌≡◌, Bool, true, false, not, ◌&&◌, cond, List, [], ◌∷◌, ◌++◌, ℕ, suc, ◌+◌, ◌*◌, ◌-◌, ◌/◌, ◌%◌, ◌≤◌, ◌<◌, length, get_or, take, drop, set, replicate, eqb, leb, T, Float}
use Rattle.std.specs.Float.{inf}
use Rattle.base.specs.Lists.{any, each, differs, member}
use Rattle.regions.specs.Region.{places, side_size, Constraint, constraint, holds, own_side, opposite_side, incidence, across}
use Rattle.counts.specs.Move.{Change, balances, select}
use Rattle.counts.specs.Search.{Go, Act, State, skip, turned_back, entered, record_path, signed, others_changed, is_used, free, try_step, visit}
use Rattle.counts.specs.Search.{dfs, run}
use Rattle.counts.specs.inner.Tables.{decoded, path_of, state_of, the_graph, cost_in, allowed_in, no_constraint, edges_on, Other, Tables}
use Rattle.counts.specs.inner.Tables.{edge_slots, changes, marks_size, path_size, max_sides}
use Rattle.counts.specs.declared.search.SearchState.{SearchState}
use Rattle.counts.specs.declared.search.Sides.{Sides}
use Rattle.counts.specs.declared.search.Changed.{Changed}
use Rattle.counts.specs.declared.search.Changed.TheVariants.{Nothing, One, Many}

-- ---- the two slots of an edge, whatever records the tables stand for

-- p is the slot of edge x at which its constraint i stands
pub record SlotOf (incident : List ℕ) (x i p : ℕ) : Type 0 where
  pub below : p < edge_slots
  pub of_edge : p / 2 ≡ x
  pub entry_is : {regions own : List ℕ} → Tables regions incident own → T (holds (constraint (the_graph regions) i) x) → get_or incident p 0 ≡ i

-- p is its other slot
pub record OtherSlot (incident : List ℕ) (x i p : ℕ) : Type 0 where
  pub below : p < edge_slots
  pub of_edge : p / 2 ≡ x
  pub other_is : {regions own : List ℕ} → Tables regions incident own → T (holds (constraint (the_graph regions) i) x)
      → Other (the_graph regions) x i (get_or incident p 0)

-- r says whether two changes balance in `home`: the start's, and one whose edge stands there at slot p
pub record BalancesThere (incident own : List ℕ) (p change start home : ℕ) (r : Bool) : Type 0 where
  pub balance_is : {regions : List ℕ} → Tables regions incident own → p / 2 ≡ change / 2 → get_or incident p 0 ≡ home → home < no_constraint
      → T (holds (constraint (the_graph regions) home) (start / 2))
      → r ≡ balances (constraint (the_graph regions) home) (decoded start) (decoded change)

-- ---- the two sides of a constraint, as the code walks along them

-- the edges of both sides, those opposite to x first
abbrev pub both_sides : Constraint → ℕ → List ℕ
both_sides c x = opposite_side c x ++ own_side c x

-- the same with the signs that a step through c would give them; x itself is among them
abbrev pub both_signed : Constraint → ℕ → Bool → List Change
both_signed c x s = signed s (opposite_side c x) ++ signed (not s) (own_side c x)

-- `sides_of` can read side s and the one across it
pub record MayReadSides (regions : List ℕ) (s : ℕ) : Type 0 where
  pub below : s < max_sides
  pub own_fits : s * side_size places + side_size places ≤ length regions
  pub opposite_fits : across s * side_size places + side_size places ≤ length regions
  pub own_few : get_or regions (s * side_size places) 0 ≤ places
  pub opposite_few : get_or regions (across s * side_size places) 0 ≤ places

-- the edges where `Sides` says that they stand
abbrev pub opposite_in : List ℕ → Sides → List ℕ
opposite_in regions r = take r.split (drop r.opposite regions)

abbrev pub own_in : List ℕ → Sides → List ℕ
own_in regions r = take (r.total - r.split) (drop r.own regions)

-- both, the opposite ones first, and the same with signs
abbrev pub both_in : List ℕ → Sides → List ℕ
both_in regions r = opposite_in regions r ++ own_in regions r

abbrev pub signed_in : List ℕ → Sides → Bool → List Change
signed_in regions r s = signed s (opposite_in regions r) ++ signed (not s) (own_in regions r)

-- they stand inside the records
pub record SidesInside (regions : List ℕ) (r : Sides) : Type 0 where
  pub opposite_fits : r.opposite + r.split ≤ length regions
  pub own_fits : r.own + (r.total - r.split) ≤ length regions
  pub in_order : r.split ≤ r.total
  pub few : r.total ≤ 2 * places

-- r says where side s and the one across it stand
pub record SidesRead (regions : List ℕ) (s : ℕ) (r : Sides) : Type 0 where
  pub opposite_is : opposite_in regions r ≡ edges_on regions (across s)
  pub own_is : own_in regions r ≡ edges_on regions s
  pub inside : SidesInside regions r

-- ---- the changed edges of a constraint

-- what a scan tells of the changed edges in a constraint
abbrev pub changed_by : List Change → Changed
changed_by [] = Nothing
changed_by (w ∷ []) = One w.0
changed_by (w ∷ v ∷ r) = Many

-- the changes at one of the edges es, besides those at x
abbrev pub changed_among : List ℕ → ℕ → List Change → List Change
changed_among es x path = select (λ (e : ℕ). differs x e && member e es) path

-- `changed_in` is to scan the first n changes for edges of both sides, the own side being that of slot p
pub record MayScan (regions own path : List ℕ) (n p : ℕ) : Type 0 where
  pub small : p < edge_slots
  pub sides : MayReadSides regions (get_or own p 0)
  pub fits : n ≤ path_size
  pub path_long : length path ≡ path_size

-- ---- the definition's functions over the tables of the round, started by the packed change `start`

module _ (regions : List ℕ) (costs : List Float) (allowed : List Bool) (limit : ℕ) (start : ℕ) where
  abbrev pub dfs_of : ℕ → Go
  dfs_of k = dfs (the_graph regions) (cost_in costs) (allowed_in allowed) limit (start / 2) (eqb (start % 2) 1) k

  abbrev pub try_step_of : ℕ → List Bool → List Change → Float → ℕ → Change → Act
  try_step_of k used path t i z = try_step (the_graph regions) (cost_in costs) (allowed_in allowed) limit (start / 2) (eqb (start % 2) 1) (dfs_of k)
      used path t i z

  abbrev pub visit_of : ℕ → List Bool → List Change → ℕ → Float → ℕ → Act
  visit_of k used path last t i = visit (the_graph regions) (cost_in costs) (allowed_in allowed) limit (start / 2) (eqb (start % 2) 1) (dfs_of k) used
      path (last / 2) (eqb (last % 2) 1) t i

  -- try_step, but no step back to the last edge x
  abbrev pub try_partner_of : ℕ → List Bool → List Change → ℕ → Float → ℕ → Change → Act
  try_partner_of k used path x t i z = cond (differs x z.0) (try_step_of k used path t i z) skip

-- ---- what the functions are lent

-- `home`, the start's constraint that is still open, none if it has none
pub record Home (g : List Constraint) (used : List Bool) (path : List ℕ) (home : ℕ) : Type 0 where
  pub at_start : home ≢ no_constraint → T (holds (constraint g home) (get_or path 0 0 / 2))
  pub unmet : home ≢ no_constraint → is_used used home ≡ false
  pub at_most : home ≤ no_constraint

-- `dfs` is to cross the unused constraint at slot p of the last of n changes
pub record MayCross (g : List Constraint) (incident : List ℕ) (used : List Bool) (path : List ℕ) (n p home : ℕ) : Type 0 where
  pub one : 1 ≤ n
  pub room : n + free used ≤ marks_size
  pub long : length used ≡ marks_size
  pub path_long : length path ≡ path_size
  pub small : p < edge_slots
  pub here : get_or path (n - 1) 0 / 2 ≡ p / 2
  pub real : get_or incident p 0 < no_constraint
  pub unused : is_used used (get_or incident p 0) ≡ false
  pub away : (i : ℕ) → is_used used i ≡ false → i ≢ home → others_changed (constraint g i) (p / 2) (path_of n path) ≡ []
  pub mine : (i : ℕ) → is_used used i ≡ false → i ≢ home → T (holds (constraint g i) (p / 2)) → i ≡ get_or incident p 0
  pub home_is : Home g used path home
  pub far : get_or incident p 0 ≡ home → get_or path 0 0 / 2 ≢ p / 2

-- `try_step` is to see whether change d can follow the last one, of edge e, through the used constraint i
pub record MayStep (g : List Constraint) (used : List Bool) (path : List ℕ) (n e i d home : ℕ) : Type 0 where
  pub one : 1 ≤ n
  pub room : n + 1 + free used ≤ marks_size
  pub long : length used ≡ marks_size
  pub path_long : length path ≡ path_size
  pub small : d < changes
  pub through : T (holds (constraint g i) (d / 2))
  pub taken : is_used used i ≡ true
  pub new : d / 2 ≢ e → any (λ (w : Change). eqb w.0 (d / 2)) (path_of n path) ≡ false
  pub away : (j : ℕ) → is_used used j ≡ false → j ≢ home → select (holds (constraint g j)) (path_of n path) ≡ []
  pub home_is : Home g used path home

-- `dfs` with all that it is lent
pub record MayDfs (regions incident own : List ℕ) (used : List Bool) (path best : List ℕ) (n p home : ℕ) : Type 0 where
  pub tables : Tables regions incident own
  pub cross : MayCross (the_graph regions) incident used path n p home
  pub best_long : length best ≡ path_size

-- `try_step` with all that it is lent
pub record MayTryStep (regions incident own : List ℕ) (used : List Bool) (path best : List ℕ) (n e i d home : ℕ) : Type 0 where
  pub tables : Tables regions incident own
  pub step : MayStep (the_graph regions) used path n e i d home
  pub best_long : length best ≡ path_size

-- `keep_path` is to keep the first n changes
pub record MayKeepPath (path best : List ℕ) (n : ℕ) : Type 0 where
  pub fits : n ≤ path_size
  pub path_long : length path ≡ path_size
  pub best_long : length best ≡ path_size

-- `end_chain` is to enter the edge of change d after n others
pub record MayEndChain (path best : List ℕ) (n d : ℕ) : Type 0 where
  pub fits : n < path_size
  pub small : d < changes
  pub path_long : length path ≡ path_size
  pub best_long : length best ≡ path_size

-- `close_loop` is to close a loop of n changes in `home`, where the last one's edge stands at slot p and the start's edge at another
pub record MayCloseLoop (regions incident own path best : List ℕ) (n p home : ℕ) : Type 0 where
  pub tables : Tables regions incident own
  pub one : 1 ≤ n
  pub fits : n ≤ path_size
  pub path_long : length path ≡ path_size
  pub best_long : length best ≡ path_size
  pub small : p < edge_slots
  pub real : get_or incident p 0 < no_constraint
  pub here : get_or path (n - 1) 0 / 2 ≡ p / 2
  pub at_home : get_or incident p 0 ≡ home
  pub start_there : T (holds (constraint (the_graph regions) home) (get_or path 0 0 / 2))

-- ---- what they leave: marks and path as they were, the state and the kept reading as the definition has them

-- `dfs`, and `close_loop` with it: `visit` of the constraint at slot p
pub record Crossed (regions incident : List ℕ) (costs : List Float) (allowed : List Bool) (limit : ℕ) (used : List Bool) (path best : List ℕ)
    (n p : ℕ) (t : Float) (st : SearchState) (used' : List Bool) (path' best' : List ℕ) (r : SearchState) : Type 0 where
  pub used_kept : used' ≡ used
  pub path_kept : take n path' ≡ take n path
  pub long_kept : length path' ≡ length path
  pub best_kept : length best' ≡ length best
  pub short : st.len ≤ path_size → r.len ≤ path_size
  pub answer : state_of r best' ≡ visit_of regions costs allowed limit (get_or path 0 0) (free used) used (path_of n path) (get_or path (n - 1) 0) t
      (get_or incident p 0) (state_of st best)

-- `try_step`, and `end_chain` with it: `try_step` of change d
pub record Stepped (regions : List ℕ) (costs : List Float) (allowed : List Bool) (limit : ℕ) (used : List Bool) (path best : List ℕ) (n e i d : ℕ)
    (t : Float) (st : SearchState) (used' : List Bool) (path' best' : List ℕ) (r : SearchState) : Type 0 where
  pub used_kept : used' ≡ used
  pub path_kept : take n path' ≡ take n path
  pub long_kept : length path' ≡ length path
  pub best_kept : length best' ≡ length best
  pub short : st.len ≤ path_size → r.len ≤ path_size
  pub answer : state_of r best' ≡ try_partner_of regions costs allowed limit (get_or path 0 0) (suc (free used)) used (path_of n path) e t i (decoded d)
      (state_of st best)

-- the entry to an edge whose constraints are all used: a step, whatever tables and marks led there
pub record Ended (costs : List Float) (limit : ℕ) (path best : List ℕ) (n d : ℕ) (t : Float) (home : ℕ) (st : SearchState)
    (path' best' : List ℕ) (r : SearchState) : Type 0 where
  pub steps : {regions incident own : List ℕ} {allowed used : List Bool} {e i : ℕ} → Tables regions incident own
      → MayStep (the_graph regions) used path n e i d home → d / 2 ≢ e → get_or allowed d false ≡ true
      → Other (the_graph regions) (d / 2) i no_constraint
      → Stepped regions costs allowed limit used path best n e i d t st used path' best' r

-- the closing of a loop: a crossing of `home`, whatever the costs, the limit and the marks
pub record Closed (regions incident path best : List ℕ) (n p home : ℕ) (t : Float) (st : SearchState)
    (best' : List ℕ) (r : SearchState) : Type 0 where
  pub crosses : {costs : List Float} {allowed : List Bool} {limit : ℕ} {used : List Bool} → MayCross (the_graph regions) incident used path n p home
      → Crossed regions incident costs allowed limit used path best n p t st used path best' r

-- ---- the whole search from one start

-- the marks that it starts with: no constraint is used yet, and `no_constraint` always counts as used
unfoldable pub no_marks : List Bool
no_marks = set (replicate marks_size false) no_constraint true

-- the state that it starts with
abbrev pub fresh_state : SearchState
fresh_state = record { kept = inf false; expansions = 0; len = 0; cut = false }

-- The search in two acts, on any state: the entry to the start, then the crossing of each of its constraints.
module _ (regions : List ℕ) (costs : List Float) (limit start : ℕ) where
  abbrev pub start_cost : Float
  start_cost = cost_in costs (start / 2) (eqb (start % 2) 1)

  -- past the limit the entry is turned back; an edge without a constraint is a move by itself
  abbrev pub entry_by : List ℕ → Act
  entry_by [] = record_path (the_graph regions) no_marks (decoded start ∷ []) start_cost
  entry_by (i ∷ is) = skip

  abbrev pub entry_of : Act
  entry_of st = cond (leb limit st.expansions) turned_back (λ (s : State). entry_by (incidence (the_graph regions) (start / 2)) (entered s)) st

  -- a start that was turned back has nothing to cross
  abbrev pub crossing_of : List Bool → Act
  crossing_of allowed st =
      cond st.cut skip (each (visit_of regions costs allowed limit start (free no_marks) no_marks (decoded start ∷ []) start start_cost)
      (incidence (the_graph regions) (start / 2))) st

-- `enter` and its core, which are to enter the start
pub record MayEnter (path best : List ℕ) (start : ℕ) : Type 0 where
  pub small : start < changes
  pub path_long : length path ≡ path_size
  pub best_long : length best ≡ path_size

-- `cross` and its core, which are to cross its constraints
pub record MayCrossAll (regions incident own : List ℕ) (used : List Bool) (path best : List ℕ) (start : ℕ) : Type 0 where
  pub tables : Tables regions incident own
  pub small : start < changes
  pub unmarked : used ≡ no_marks
  pub path_long : length path ≡ path_size
  pub at_start : get_or path 0 0 ≡ start
  pub best_long : length best ≡ path_size

-- `run`, which is to do both
pub record MayRun (regions incident own : List ℕ) (used : List Bool) (path best : List ℕ) (start : ℕ) : Type 0 where
  pub tables : Tables regions incident own
  pub small : start < changes
  pub unmarked : used ≡ no_marks
  pub path_long : length path ≡ path_size
  pub best_long : length best ≡ path_size

-- what the entry leaves, whatever records `incident` was made of
pub record Entered (incident : List ℕ) (costs : List Float) (limit start : ℕ) (path best : List ℕ) (st : SearchState)
    (path' best' : List ℕ) (r : SearchState) : Type 0 where
  pub path_is : path' ≡ set path 0 start
  pub best_kept : length best' ≡ length best
  pub short : st.len ≤ path_size → r.len ≤ path_size
  pub answer : {regions own : List ℕ} → Tables regions incident own
      → state_of r best' ≡ entry_of regions costs limit start (state_of st best)

-- what the crossings leave
pub record CrossedAll (regions : List ℕ) (costs : List Float) (allowed : List Bool) (limit start : ℕ) (used : List Bool) (path best : List ℕ)
    (st : SearchState) (used' : List Bool) (path' best' : List ℕ) (r : SearchState) : Type 0 where
  pub used_kept : used' ≡ used
  pub path_kept : take 1 path' ≡ take 1 path
  pub long_kept : length path' ≡ length path
  pub best_kept : length best' ≡ length best
  pub short : st.len ≤ path_size → r.len ≤ path_size
  pub answer : state_of r best' ≡ crossing_of regions costs limit start allowed (state_of st best)

-- what both leave, from the fresh state
pub record Searched (regions : List ℕ) (costs : List Float) (allowed : List Bool) (limit start : ℕ)
    (used' : List Bool) (path' best' : List ℕ) (r : SearchState) : Type 0 where
  pub used_kept : used' ≡ no_marks
  pub long_kept : length path' ≡ path_size
  pub best_kept : length best' ≡ path_size
  pub short : r.len ≤ path_size
  pub answer : state_of r best' ≡ run (the_graph regions) (cost_in costs) (allowed_in allowed) limit (start / 2) (eqb (start % 2) 1)

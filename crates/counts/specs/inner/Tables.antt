-- What the search's tables, buffers and state stand for: the records that the contracts of the functions below the public ones cite.
-- Assumes nothing.
-- A slot is 2 * edge + k: constraint k (0 or 1) of the edge. A change is packed in one number, 2 * edge + 1 for +1 and 2 * edge for -1.
use Rattle.std.specs.Prelude.{◌≢◌, ◌≡◌, Bool, true, false, cond, List, [], ◌∷◌, ℕ, ◌+◌, ◌*◌, ◌/◌, ◌%◌, ◌≤◌, ◌<◌, length, get_or, set, take, drop, eqb, ltb, T, Float}
use Rattle.std.specs.Float.{nan}
use Rattle.base.specs.Lists.{member}
use Rattle.regions.specs.Region.{Constraint, places, graph, constraint, holds, own_side, opposite_side, incidence, side_size, across}
use Rattle.regions.specs.Accept.{max_regions, max_edges}
use Rattle.counts.specs.Move.{Change, EdgeCost, is_allowed}
use Rattle.counts.specs.Cost.{CostModel}
use Rattle.counts.specs.Search.{State}
use Rattle.counts.specs.declared.search.SearchState.{SearchState}

-- ---- packed changes

abbrev pub decoded : ℕ → Change
decoded c = (c / 2, eqb (c % 2) 1)

abbrev pub encoded : ℕ → Bool → ℕ
encoded x s = x * 2 + cond s 1 0

abbrev pub all_decoded : List ℕ → List Change
all_decoded [] = []
all_decoded (c ∷ cs) = decoded c ∷ all_decoded cs

-- the first n changes of a buffer
abbrev pub path_of : ℕ → List ℕ → List Change
path_of n l = all_decoded (take n l)

-- the code's state, with the buffer that holds the kept reading
abbrev pub state_of : SearchState → List ℕ → State
state_of st best = record { expansions = st.expansions; cut = st.cut; kept = st.kept; best = path_of st.len best }

-- ---- the tables of a round

abbrev pub the_graph : List ℕ → List Constraint
the_graph regions = graph places regions

-- what each change costs, and whether it is allowed, by its packed number
abbrev pub cost_in : List Float → EdgeCost
cost_in costs x s = get_or costs (encoded x s) nan

abbrev pub allowed_in : List Bool → ℕ → Bool → Bool
allowed_in allowed x s = get_or allowed (encoded x s) false

-- the two entries of edge e, for +1 and for -1, at 2 * e + 1 and at 2 * e
abbrev pub set_both : {A : Type 0} → List A → ℕ → A → A → List A
set_both l e plus minus = set (set l (e * 2 + 1) plus) (e * 2) minus

-- the entries of edge x in a round's tables: what +1 and -1 cost, and whether each is allowed, at 2 * x + 1 and at 2 * x
pub record Entries (counts : List ℕ) (model : CostModel) (costs : List Float) (allowed : List Bool) (x : ℕ) : Type 0 where
  pub plus_cost : get_or costs (x * 2 + 1) nan ≡ model counts x true
  pub minus_cost : get_or costs (x * 2) nan ≡ model counts x false
  pub plus_allowed : get_or allowed (x * 2 + 1) false ≡ is_allowed counts x true
  pub minus_allowed : get_or allowed (x * 2) false ≡ is_allowed counts x false

-- ---- sizes, which follow from 01's limits (src/limits.rt)

-- each region gives two constraints and has four sides
abbrev pub max_constraints : ℕ
max_constraints = 2 * max_regions

abbrev pub max_sides : ℕ
max_sides = 4 * max_regions

-- stands for "no constraint" in a table, and is the number of a constraint that is always used
abbrev pub no_constraint : ℕ
no_constraint = max_constraints

-- an edge has two slots, one for each of its constraints, and two changes, +1 and -1
abbrev pub edge_slots : ℕ
edge_slots = 2 * max_edges

abbrev pub changes : ℕ
changes = 2 * max_edges

-- a mark for each constraint, and one for none; a path has at most one edge more than there are constraints
abbrev pub marks_size : ℕ
marks_size = max_constraints + 1

abbrev pub path_size : ℕ
path_size = max_constraints + 1

-- ---- what stands in the tables

-- the edges of side s, sides counted over all records
abbrev pub edges_on : List ℕ → ℕ → List ℕ
edges_on regions s = take (get_or regions (s * side_size places) 0) (drop (s * side_size places + 1) regions)

-- y is in constraint i, and o is its other constraint, or none
pub data Other (g : List Constraint) (y i o : ℕ) : Type 0 where
  alone : o ≡ no_constraint → incidence g y ≡ i ∷ [] → Other g y i o
  after : o < no_constraint → o ≢ i → incidence g y ≡ i ∷ o ∷ [] → Other g y i o
  before : o < no_constraint → o ≢ i → incidence g y ≡ o ∷ i ∷ [] → Other g y i o

-- edge x of constraint i stands on side s
pub record StandsOn (regions : List ℕ) (i x s : ℕ) : Type 0 where
  pub below : s < max_sides
  pub own_is : own_side (constraint (the_graph regions) i) x ≡ edges_on regions s
  pub opposite_is : opposite_side (constraint (the_graph regions) i) x ≡ edges_on regions (across s)
  pub own_fits : s * side_size places + side_size places ≤ length regions
  pub opposite_fits : across s * side_size places + side_size places ≤ length regions
  pub own_few : get_or regions (s * side_size places) 0 ≤ places
  pub opposite_few : get_or regions (across s * side_size places) 0 ≤ places
  pub first : member x (constraint (the_graph regions) i).a ≡ ltb (s % 4) 2

-- The tables stand for the records: `incident` has the constraint at each slot, or none, and `own` the side on which the edge stands there.
pub record Tables (regions incident own : List ℕ) : Type 0 where
  pub parted : (i y : ℕ) → T (member y (constraint (the_graph regions) i).a) → T (member y (constraint (the_graph regions) i).b) → ⊥
  pub few : (i y : ℕ) → T (holds (constraint (the_graph regions) i) y) → y < max_edges
  pub numbered : (i y : ℕ) → T (holds (constraint (the_graph regions) i) y) → i < max_constraints
  pub incident_is : (y k : ℕ) → y < max_edges → k < 2 → get_or incident (y * 2 + k) 0 ≡ get_or (incidence (the_graph regions) y) k no_constraint
  pub thin : (y : ℕ) → length (incidence (the_graph regions) y) ≤ 2
  pub stands : (p : ℕ) → p < edge_slots → get_or incident p 0 < no_constraint → StandsOn regions (get_or incident p 0) (p / 2) (get_or own p 0)

-- ---- what the functions that write a round's tables ask, and leave (src/cost.rt)

-- edge e has entries in both tables
pub record MaySetCosts (e : ℕ) (costs : List Float) (allowed : List Bool) : Type 0 where
  pub below : e < max_edges
  pub costs_long : length costs ≡ changes
  pub allowed_long : length allowed ≡ changes

-- every edge has: there is a count and a range for each, and there are not too many
pub record MayFillCosts (counts : List ℕ) (least most costs : List Float) (allowed : List Bool) : Type 0 where
  pub few : length counts ≤ max_edges
  pub least_long : length least ≡ length counts
  pub most_long : length most ≡ length counts
  pub costs_long : length costs ≡ changes
  pub allowed_long : length allowed ≡ changes

-- the edges below m have their entries
pub record CostsFilled (m : ℕ) (counts : List ℕ) (model : CostModel) (costs : List Float) (allowed : List Bool) : Type 0 where
  pub entries : (y : ℕ) → y < m → Entries counts model costs allowed y
  pub costs_long : length costs ≡ changes
  pub allowed_long : length allowed ≡ changes

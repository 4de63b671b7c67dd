-- How the tables are filled: the records that the contracts of src/graph.rt cite. Assumes nothing.
-- Constraint i is pair i % 2 of region i / 2, so that its two sides are first_side i and, two further on, the opposite one.
use Rattle.std.specs.Prelude.{◌≡◌, ◌&&◌, cond, List, ℕ, ◌+◌, ◌*◌, ◌/◌, ◌%◌, ◌≤◌, ◌<◌, length, get_or, replicate, T, eqb}
use Rattle.base.specs.Lists.{member, Distinct}
use Rattle.base.specs.declared.verdict.Verdict.{Verdict}
use Rattle.base.specs.Refusal.{is_passed}
use Rattle.regions.specs.Region.{Constraint, places, region_count, constraint, incidence, side_size}
use Rattle.regions.specs.Accept.{max_regions, max_edges, limits_test, pairs_test, overused_test}
use Rattle.counts.specs.inner.Tables.{the_graph, no_constraint, edges_on, Tables, max_sides, edge_slots}

abbrev pub first_side : ℕ → ℕ
first_side i = i / 2 * 4 + i % 2

abbrev pub second_side : ℕ → ℕ
second_side i = first_side i + 2

-- ---- what records that passed tests 1 and 3 to 5 have

-- of side s: it is there, its number of edges fits, its edges are distinct and each has its slots
pub record SideTested (regions : List ℕ) (s : ℕ) : Type 0 where
  pub numbered : s < max_sides
  pub fits : s * side_size places + side_size places ≤ length regions
  pub few : get_or regions (s * side_size places) 0 ≤ places
  pub inside : (y : ℕ) → T (member y (edges_on regions s)) → y < max_edges
  pub once : Distinct (edges_on regions s)

-- of constraint i
pub record PairTested (regions : List ℕ) (i : ℕ) : Type 0 where
  pub first : SideTested regions (first_side i)
  pub second : SideTested regions (second_side i)
  pub parted : (y : ℕ) → T (member y (edges_on regions (first_side i))) → T (member y (edges_on regions (second_side i))) → ⊥

pub record Tested (regions : List ℕ) : Type 0 where
  pub few : region_count places regions ≤ max_regions
  pub pair_tested : (i : ℕ) → i < region_count places regions * 2 → PairTested regions i

-- ---- what stands in the tables: `uses` has the number of constraints of each edge

pub record Sized (incident own uses : List ℕ) : Type 0 where
  pub incident_size : length incident ≡ edge_slots
  pub own_size : length own ≡ edge_slots
  pub uses_size : length uses ≡ max_edges

-- The edges of l, which stand on side s of constraint i, are put into the tables: each counts one use more, and i and s stand at its slot
-- with the number of its uses before, if that is below 2. All else is as it was.
pub record Placed (i s : ℕ) (l incident own uses incident' own' uses' : List ℕ) : Type 0 where
  pub sized : Sized incident' own' uses'
  pub counted : (y : ℕ) → y < max_edges → get_or uses' y 0 ≡ get_or uses y 0 + cond (member y l) 1 0
  pub incident_at :
      (y k : ℕ) → y < max_edges → k < 2
      → get_or incident' (y * 2 + k) 0 ≡ cond (member y l && eqb (get_or uses y 0) k) i (get_or incident (y * 2 + k) 0)
  pub own_at :
      (y k : ℕ) → y < max_edges → k < 2 → get_or own' (y * 2 + k) 0 ≡ cond (member y l && eqb (get_or uses y 0) k) s (get_or own (y * 2 + k) 0)

-- the side of constraint i on which y stands
abbrev pub side_of : List Constraint → ℕ → ℕ → ℕ
side_of g y i = first_side i + cond (member y (constraint g i).a) 0 2

-- the tables hold the constraints `placed`, the first ones of g
pub record Filled (g placed : List Constraint) (incident own uses : List ℕ) : Type 0 where
  pub sized : Sized incident own uses
  pub counted : (y : ℕ) → y < max_edges → get_or uses y 0 ≡ length (incidence placed y)
  pub incident_is : (y k : ℕ) → y < max_edges → k < 2 → get_or incident (y * 2 + k) 0 ≡ get_or (incidence placed y) k no_constraint
  pub own_is :
      (y k : ℕ) → y < max_edges → k < 2 → get_or incident (y * 2 + k) 0 < no_constraint
      → get_or own (y * 2 + k) 0 ≡ side_of g y (get_or incident (y * 2 + k) 0)

-- what `build_graph` leaves for n edges: 6's verdict, and the search's tables if that is that it passed
pub record Built (n : ℕ) (regions incident own : List ℕ) (verdict : Verdict) : Type 0 where
  pub verdict_is : verdict ≡ overused_test (the_graph regions) 0 n
  pub tables : T (is_passed verdict) → Tables regions incident own
  pub incident_size : length incident ≡ edge_slots
  pub own_size : length own ≡ edge_slots

-- ---- what the functions that fill the tables ask

-- of edge e, which stands on side s of constraint ci
pub record MayPlaceEdge (incident own uses : List ℕ) (ci s e : ℕ) : Type 0 where
  pub sized : Sized incident own uses
  pub numbered : ci < no_constraint
  pub side_below : s < max_sides
  pub edge_below : e < max_edges
  pub uses_few : get_or uses e 0 ≤ max_sides

-- of all edges of side s
pub record MayPlaceSide (regions incident own uses : List ℕ) (ci s : ℕ) : Type 0 where
  pub side : SideTested regions s
  pub numbered : ci < no_constraint
  pub sized : Sized incident own uses
  pub uses_few : (y : ℕ) → y < max_edges → get_or uses y 0 ≤ max_sides

-- of all constraints: the tables hold none yet
pub record MayPlace (regions incident own uses : List ℕ) : Type 0 where
  pub tested : Tested regions
  pub incident_empty : incident ≡ replicate edge_slots no_constraint
  pub own_size : length own ≡ edge_slots
  pub uses_zero : uses ≡ replicate max_edges 0

-- of the whole graph: the tests 1 and 3 to 5 passed for n edges
pub record MayBuild (n : ℕ) (regions incident own : List ℕ) : Type 0 where
  pub limits_pass : T (is_passed (limits_test places n regions))
  pub pairs_pass : T (is_passed (pairs_test places n 0 (region_count places regions) regions))
  pub incident_empty : incident ≡ replicate edge_slots no_constraint
  pub own_size : length own ≡ edge_slots

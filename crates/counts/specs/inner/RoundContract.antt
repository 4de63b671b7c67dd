-- What the functions of a round say of their tables and buffers: the records that their contracts cite. Assumes nothing.
use Rattle.std.specs.Prelude.{◌≡◌, Bool, true, false, ◌||◌, cond, List, [], ℕ, zero, suc, ◌+◌, ◌-◌, ◌*◌, ◌/◌, ◌%◌, ◌≤◌, ◌<◌, length, get_or, replicate, T, eqb, ltb, Float, Option, Some, None}
use Rattle.std.specs.Float.{nan, inf}
use Rattle.base.specs.Lists.{In, Distinct}
use Rattle.counts.specs.Move.{Change, edges, is_allowed, apply_changes}
use Rattle.counts.specs.Cost.{CostModel, by_ranges}
use Rattle.counts.specs.Search.{State, run}
use Rattle.counts.specs.Round.{Found, improves, find_augmentation, Solved, max_moves}
use Rattle.base.specs.Refusal.{is_passed}
use Rattle.regions.specs.Region.{places}
use Rattle.regions.specs.Accept.{regions_test, max_edges}
use Rattle.counts.specs.inner.Tables.{Tables, the_graph, cost_in, allowed_in, path_of, state_of, changes, path_size}
use Rattle.counts.specs.inner.Components.{Labels, Refreshed, MayRefresh}
use Rattle.counts.specs.inner.SearchContract.{no_marks}
use Rattle.counts.specs.declared.search.SearchState.{SearchState}
use Rattle.counts.specs.declared.augment.Choice.{Choice}
use Rattle.counts.specs.declared.augment.FoundMove.{FoundMove}
use Rattle.counts.specs.Values.{max_count}

-- ---- one search for each start

-- the buffers that every search is lent, as it leaves them too
pub record Buffers (used : List Bool) (path best : List ℕ) : Type 0 where
  pub unmarked : used ≡ no_marks
  pub path_long : length path ≡ path_size
  pub best_long : length best ≡ path_size

-- what a search starts with, and what there is where a change is no start
abbrev pub nothing_searched : State
nothing_searched = record { expansions = 0; cut = false; kept = inf false; best = [] }

-- the search from a packed change
unfoldable pub search_of : List ℕ → List Float → List Bool → ℕ → ℕ → State
unfolding run
search_of regions costs allowed limit c =
    cond (allowed_in allowed (c / 2) (eqb (c % 2) 1))
    (run (the_graph regions) (cost_in costs) (allowed_in allowed) limit (c / 2) (eqb (c % 2) 1)) nothing_searched

-- what the search from a packed change is lent
pub record MaySearch (regions incident own : List ℕ) (used : List Bool) (path best : List ℕ) (c : ℕ) : Type 0 where
  pub tables : Tables regions incident own
  pub below : c < changes
  pub buffers : Buffers used path best

-- what it leaves: its result, which is the definition's, and buffers for the next one
pub record SearchedFrom (regions : List ℕ) (costs : List Float) (allowed : List Bool) (limit c : ℕ) (used : List Bool) (path best : List ℕ)
    (r : SearchState) : Type 0 where
  pub answer : state_of r best ≡ search_of regions costs allowed limit c
  pub buffers : Buffers used path best
  pub len_fits : r.len ≤ path_size

-- the results of searches that are remembered, by packed change
pub record Result (regions : List ℕ) (costs : List Float) (allowed : List Bool) (limit c : ℕ) (kept : List Float) (cut : List Bool) : Type 0 where
  pub kept_is : get_or kept c nan ≡ (search_of regions costs allowed limit c).kept
  pub cut_is : get_or cut c false ≡ (search_of regions costs allowed limit c).cut

-- what is remembered is right, wherever a start is marked as known
pub record Remembered (regions : List ℕ) (costs : List Float) (allowed : List Bool) (limit : ℕ) (kept : List Float)
    (cut known : List Bool) : Type 0 where
  pub kept_long : length kept ≡ changes
  pub cut_long : length cut ≡ changes
  pub known_long : length known ≡ changes
  pub right : (c : ℕ) → c < changes → get_or known c false ≡ true → Result regions costs allowed limit c kept cut

-- what is lent where start c is to be known
pub record MayRecall (regions incident own : List ℕ) (costs : List Float) (allowed : List Bool) (limit : ℕ) (used : List Bool) (path best : List ℕ)
    (kept : List Float) (cut known : List Bool) (c : ℕ) : Type 0 where
  pub searching : MaySearch regions incident own used path best c
  pub remembered : Remembered regions costs allowed limit kept cut known

-- start c is known now, and what was known still is
pub record Recalled (regions : List ℕ) (costs : List Float) (allowed : List Bool) (limit c : ℕ) (known : List Bool) (used : List Bool)
    (path best : List ℕ) (kept : List Float) (cut known' : List Bool) : Type 0 where
  pub buffers : Buffers used path best
  pub remembered : Remembered regions costs allowed limit kept cut known'
  pub now_known : get_or known' c false ≡ true
  pub still_known : (d : ℕ) → get_or known d false ≡ true → get_or known' d false ≡ true

-- what is lent where all starts of n edges are to be known, and where the move is to be found
pub record MayFind (regions incident own : List ℕ) (costs : List Float) (allowed : List Bool) (limit : ℕ) (used : List Bool) (path best : List ℕ)
    (kept : List Float) (cut known : List Bool) (n : ℕ) : Type 0 where
  pub tables : Tables regions incident own
  pub few : n ≤ max_edges
  pub buffers : Buffers used path best
  pub remembered : Remembered regions costs allowed limit kept cut known

-- the first m starts are known
pub record AllKnown (regions : List ℕ) (costs : List Float) (allowed : List Bool) (limit m : ℕ) (used : List Bool) (path best : List ℕ)
    (kept : List Float) (cut known : List Bool) : Type 0 where
  pub buffers : Buffers used path best
  pub remembered : Remembered regions costs allowed limit kept cut known
  pub all_known : (c : ℕ) → c < m → get_or known c false ≡ true

-- ---- the choice among the starts

-- the k-th start, packed: edges upward, +1 before -1
abbrev pub start_at : ℕ → ℕ
start_at k = k / 2 * 2 + (1 - k % 2)

-- c is that start: the packed number of a change of edge k / 2
pub record StartIs (k c : ℕ) : Type 0 where
  pub is : c ≡ start_at k
  pub below : c < changes
  pub of_edge : c / 2 ≡ k / 2

-- stands for no start
abbrev pub no_start : ℕ
no_start = changes

abbrev pub nothing_chosen : Choice
nothing_chosen = record { kept = inf false; winner = no_start; cut = false }

-- one more start weighed
unfoldable pub weighed : Choice → Float → Bool → ℕ → Choice
weighed b kept cut c =
    record {
      kept = cond (improves b.kept kept) kept b.kept;
      winner = cond (improves b.kept kept) c b.winner;
      cut = b.cut || cut;
    }

unfoldable pub chosen : List Float → List Bool → ℕ → Choice
unfolding weighed
chosen kept cut zero = nothing_chosen
chosen kept cut (suc k) = weighed (chosen kept cut k) (get_or kept (start_at k) nan) (get_or cut (start_at k) false) (start_at k)

-- the choice among all starts of n edges
pub record ChosenOf (kept : List Float) (cut : List Bool) (n : ℕ) (r : Choice) : Type 0 where
  pub is : r ≡ chosen kept cut (n * 2)
  pub winner_fits : r.winner ≤ no_start

-- what was found, with the buffer that holds the reading
abbrev pub found_of : FoundMove → List ℕ → Found
found_of r best = record { cut = r.cut; kept = r.kept; best = path_of r.len best }

-- what `find_augmentation` answers and leaves: the definition's move, and what is known of the starts
pub record FoundIn (regions : List ℕ) (costs : List Float) (allowed : List Bool) (limit n : ℕ) (used : List Bool) (path best : List ℕ)
    (kept : List Float) (cut known : List Bool) (r : FoundMove) : Type 0 where
  pub answer : found_of r best ≡ find_augmentation (the_graph regions) (cost_in costs) (allowed_in allowed) limit n
  pub len_fits : r.len ≤ path_size
  pub buffers : Buffers used path best
  pub remembered : Remembered regions costs allowed limit kept cut known

-- ---- tables of the edge costs

-- they stand for the edge costs of these counts
pub record Priced (model : CostModel) (counts : List ℕ) (table : List Float) (allowed : List Bool) : Type 0 where
  pub costs_long : length table ≡ changes
  pub allowed_long : length allowed ≡ changes
  pub cost_is : (y : ℕ) (s : Bool) → y < length counts → cost_in table y s ≡ model counts y s
  pub allowed_is : (y : ℕ) (s : Bool) → y < length counts → allowed_in allowed y s ≡ is_allowed counts y s

-- tables as a round and a solve begin with: the costs are those of these counts, and nothing is known
pub record Started (model : CostModel) (counts : List ℕ) (costs : List Float) (allowed known : List Bool) : Type 0 where
  pub priced : Priced model counts costs allowed
  pub nothing_known : known ≡ replicate changes false

-- ---- a move that can be made

-- its edges are distinct and there, no count falls below 0, and none is too large to be changed
pub record CanApply (counts : List ℕ) (r : List Change) : Type 0 where
  pub distinct : Distinct (edges r)
  pub below : (z : Change) → In z r → z.0 < length counts
  pub down : (z : Change) → In z r → T (is_allowed counts z.0 z.1)
  pub small : (x : ℕ) → get_or counts x 0 ≤ max_count

-- a count that can be changed by +1 or -1
pub record MayChange (s : ℕ) (plus : Bool) : Type 0 where
  pub small : s ≤ max_count
  pub down : T (plus || ltb 0 s)

-- a move whose `len` changes stand in a buffer
pub record MayApply (counts best : List ℕ) (len : ℕ) : Type 0 where
  pub can : CanApply counts (path_of len best)
  pub len_fits : len ≤ path_size
  pub best_long : length best ≡ path_size

-- what `make_move` is lent: a move that can be made and has a first change, and tables to refresh
pub record MayMove (counts : List ℕ) (least most : List Float) (best : List ℕ) (len : ℕ) (costs : List Float)
    (allowed known : List Bool) : Type 0 where
  pub apply : MayApply counts best len
  pub some : 0 < len
  pub refresh : MayRefresh counts least most costs allowed known

-- the counts after the move, and the component of its first change refreshed
pub record MoveApplied (counts : List ℕ) (least most : List Float) (labels best : List ℕ) (len : ℕ) (costs : List Float) (allowed known : List Bool)
    (counts' : List ℕ) (costs' : List Float) (allowed' known' : List Bool) : Type 0 where
  pub made : counts' ≡ apply_changes (path_of len best) counts
  pub refreshed :
      Refreshed (length counts) labels (get_or labels (get_or best 0 0 / 2) 0) counts' (by_ranges least most) costs allowed known costs' allowed' known'

-- ---- rounds and solves

-- what passed the tests of a solve, with the tables made: accepted regions, and a range for each of the counts
pub record SolveInput (regions incident own : List ℕ) (least most : List Float) (counts : List ℕ) : Type 0 where
  pub tables : Tables regions incident own
  pub few : length counts ≤ max_edges
  pub least_long : length least ≡ length counts
  pub most_long : length most ≡ length counts
  pub regions_pass : T (is_passed (regions_test places (length counts) regions))

-- and of a round: no count is too large either
pub record RoundInput (regions incident own : List ℕ) (least most : List Float) (counts : List ℕ) : Type 0 where
  pub input : SolveInput regions incident own least most counts
  pub small : (x : ℕ) → get_or counts x 0 ≤ max_count

-- what the moves of a solve start from
pub record MovesInput (regions incident own : List ℕ) (least most : List Float) (counts : List ℕ) : Type 0 where
  pub round : RoundInput regions incident own least most counts
  pub zeros : counts ≡ replicate (length counts) 0

-- buffers and tables that hold nothing yet worth knowing
pub record TableSizes (costs : List Float) (allowed : List Bool) (kept : List Float) (cut known : List Bool) : Type 0 where
  pub costs_long : length costs ≡ changes
  pub allowed_long : length allowed ≡ changes
  pub kept_long : length kept ≡ changes
  pub cut_long : length cut ≡ changes
  pub known_long : length known ≡ changes

-- a round's input, with the buffers that it is lent; and that of a solve's moves, with the labels of the edges
pub record RoundLent (regions incident own : List ℕ) (least most : List Float) (counts : List ℕ) (costs : List Float) (allowed used : List Bool)
    (path best : List ℕ) (kept : List Float) (cut known : List Bool) : Type 0 where
  pub round : RoundInput regions incident own least most counts
  pub buffers : Buffers used path best
  pub sizes : TableSizes costs allowed kept cut known

pub record MovesLent (regions incident own labels : List ℕ) (least most : List Float) (counts : List ℕ) (costs : List Float)
    (allowed used : List Bool) (path best : List ℕ) (kept : List Float) (cut known : List Bool) : Type 0 where
  pub moves : MovesInput regions incident own least most counts
  pub labelled : Labels (length counts) incident labels
  pub buffers : Buffers used path best
  pub sizes : TableSizes costs allowed kept cut known

-- tables that stand for these counts: what changes cost, and what searches gave
pub record Ready (regions : List ℕ) (model : CostModel) (limit : ℕ) (counts : List ℕ) (costs : List Float) (allowed : List Bool) (kept : List Float)
    (cut known : List Bool) : Type 0 where
  pub priced : Priced model counts costs allowed
  pub remembered : Remembered regions costs allowed limit kept cut known

-- a solve's moves, or none if there is one more than are allowed; with the counts that it leaves
abbrev pub solved_of : Option ℕ → List ℕ → Solved
solved_of (Some moves) counts = record { moves = moves; counts = counts; more = false }
solved_of None counts = record { moves = max_moves; counts = counts; more = true }

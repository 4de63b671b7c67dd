-- The components of the farm: what labels of edges say, how they are made, and what a move touches of the tables (src/components.rt).
-- Assumes nothing.
use Rattle.std.specs.Prelude.{◌≢◌, ◌⊎◌, ◌≡◌, Bool, true, false, cond, List, ℕ, ◌+◌, ◌*◌, ◌/◌, ◌≤◌, ◌<◌, length, get_or, eqb, ltb, Float}
use Rattle.std.specs.Float.{nan}
use Rattle.regions.specs.Accept.{max_edges}
use Rattle.counts.specs.Cost.{CostModel}
use Rattle.counts.specs.inner.Tables.{set_both, Entries, MaySetCosts, MayFillCosts, no_constraint, max_constraints, changes}

-- ---- labels

-- edge x has constraint i at one of its two slots
abbrev pub At : List ℕ → ℕ → ℕ → Type 0
At incident i x = (get_or incident (x * 2) 0 ≡ i) ⊎ ((get_or incident (x * 2) 0 < no_constraint) × (get_or incident (x * 2 + 1) 0 ≡ i))

-- of n edges, those in one constraint have one label
pub record Labels (n : ℕ) (incident labels : List ℕ) : Type 0 where
  pub alike : (i x y : ℕ) → i < no_constraint → x < n → y < n → At incident i x → At incident i y → get_or labels x 0 ≡ get_or labels y 0

-- label `from` becomes `to`
abbrev pub renamed : ℕ → ℕ → ℕ → ℕ
renamed from to l = cond (eqb l from) to l

-- what is lent where the marks of edge e's constraints are made one, those of n edges', and where n edges get their labels
pub record MayJoin (e : ℕ) (marks : List ℕ) : Type 0 where
  pub below : e < max_edges
  pub long : length marks ≡ max_constraints

pub record MarksLent (n : ℕ) (marks : List ℕ) : Type 0 where
  pub few : n ≤ max_edges
  pub long : length marks ≡ max_constraints

pub record LabelsLent (n : ℕ) (labels : List ℕ) : Type 0 where
  pub few : n ≤ max_edges
  pub long : length labels ≡ max_edges

-- mark `from` became `to`, wherever it stood
pub record Renamed (marks : List ℕ) (from to : ℕ) (marks' : List ℕ) : Type 0 where
  pub long : length marks' ≡ max_constraints
  pub each_is : (i : ℕ) → i < max_constraints → get_or marks' i 0 ≡ renamed from to (get_or marks i 0)

-- marks of constraints that were equal still are
pub record StillEqual (marks marks' : List ℕ) : Type 0 where
  pub long : length marks' ≡ max_constraints
  pub equal : (i j : ℕ) → i < max_constraints → j < max_constraints → get_or marks i 0 ≡ get_or marks j 0 → get_or marks' i 0 ≡ get_or marks' j 0

-- the two constraints of edge x, if it has two, have one mark
abbrev pub OneMark : List ℕ → List ℕ → ℕ → Type 0
OneMark incident marks x =
    get_or incident (x * 2) 0 < no_constraint → get_or incident (x * 2 + 1) 0 < no_constraint
    → get_or marks (get_or incident (x * 2) 0) 0 ≡ get_or marks (get_or incident (x * 2 + 1) 0) 0

-- after edge e was looked at, and after n edges were
pub record MarksJoined (incident : List ℕ) (e : ℕ) (marks marks' : List ℕ) : Type 0 where
  pub still_equal : StillEqual marks marks'
  pub one_mark : OneMark incident marks' e

pub record AllJoined (n : ℕ) (incident marks : List ℕ) : Type 0 where
  pub one_mark : (x : ℕ) → x < n → OneMark incident marks x

-- edge x, if it is in a constraint, has the mark of its first one
abbrev pub Taken : List ℕ → List ℕ → List ℕ → ℕ → Type 0
Taken incident marks labels x = get_or incident (x * 2) 0 < no_constraint → get_or labels x 0 ≡ get_or marks (get_or incident (x * 2) 0) 0

-- and n edges have
pub record AllTaken (n : ℕ) (incident marks labels : List ℕ) : Type 0 where
  pub taken : (x : ℕ) → x < n → Taken incident marks labels x

-- ---- what a move touches

-- edge y is not among the first m that have this label
abbrev pub Outside : ℕ → List ℕ → ℕ → ℕ → Type 0
Outside m labels component y = y < m → get_or labels y 0 ≢ component

-- edge e has new entries, by what its changes cost now, and its starts are forgotten, if its label is this one
pub data EdgeRefreshed (label component s : ℕ) (price : Bool → Float) (e : ℕ) (costs : List Float) (allowed known : List Bool) (costs' : List Float)
    (allowed' known' : List Bool) : Type 0 where
  left_alone : label ≢ component → costs' ≡ costs → allowed' ≡ allowed → known' ≡ known
      → EdgeRefreshed label component s price e costs allowed known costs' allowed' known'
  renewed : label ≡ component → costs' ≡ set_both costs e (price true) (price false) → allowed' ≡ set_both allowed e true (ltb 0 s)
      → known' ≡ set_both known e false false → EdgeRefreshed label component s price e costs allowed known costs' allowed' known'

-- the first m edges that have this label have the entries of these counts, and their starts are forgotten; all else is as it was
pub record Refreshed (m : ℕ) (labels : List ℕ) (component : ℕ) (counts : List ℕ) (model : CostModel) (costs : List Float) (allowed known : List Bool)
    (costs' : List Float) (allowed' known' : List Bool) : Type 0 where
  pub costs_long : length costs' ≡ changes
  pub allowed_long : length allowed' ≡ changes
  pub known_long : length known' ≡ changes
  pub fresh : (y : ℕ) → y < m → get_or labels y 0 ≡ component → Entries counts model costs' allowed' y
  pub same_cost : (k : ℕ) → Outside m labels component (k / 2) → get_or costs' k nan ≡ get_or costs k nan
  pub same_allowed : (k : ℕ) → Outside m labels component (k / 2) → get_or allowed' k false ≡ get_or allowed k false
  pub still_known : (k : ℕ) → get_or known' k false ≡ true → Outside m labels component (k / 2) × (get_or known k false ≡ true)

-- what `refresh_edge` asks, and `refresh_component`: what writing the costs asks, and the marks of the starts besides
pub record MayRefreshEdge (e : ℕ) (costs : List Float) (allowed known : List Bool) : Type 0 where
  pub sizes : MaySetCosts e costs allowed
  pub known_long : length known ≡ changes

pub record MayRefresh (counts : List ℕ) (least most costs : List Float) (allowed known : List Bool) : Type 0 where
  pub sizes : MayFillCosts counts least most costs allowed
  pub known_long : length known ≡ changes

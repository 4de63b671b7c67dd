-- 01, "Unit moves", second paragraph: `AugmentSearch`, depth first from one edge and sign, over any edge cost. Assumes nothing.
-- The marks of used constraints and the path of changes are handed down and never come back, since each call leaves them as it found them;
-- only the state goes on from call to call. A call takes the search one level down as an argument, so that there is one recursion, in `dfs`.
use Rattle.std.specs.Prelude.{Bool, true, false, not, ◌&&◌, List, [], ◌∷◌, ◌++◌, length, get_or, set, replicate, leb, eqb, Float}
use Rattle.std.proofs.Math.Bool.{cond}
use Prim.Native.Nat.{ℕ, zero, suc}
use Rattle.std.specs.Float.{inf}
use Rattle.std.specs.Float.Ieee.{add, sub, lt, binary64}
use Rattle.base.specs.Lists.{differs, any, all, filter, each}
use Rattle.floats.specs.Scalar.{e_12, two_e_12}
use Rattle.regions.specs.Region.{Constraint, constraint, holds, own_side, opposite_side, incidence}
use Rattle.counts.specs.Move.{Change, EdgeCost, select, balances}

-- 01's E, 1e-12: `EPS_IMPROVEMENT`
abbrev pub eps : Float
eps = e_12

-- 2e-12
abbrev pub two_eps : Float
two_eps = two_e_12

-- expansions so far, whether an entry was turned back, the kept cost, the kept reading (empty: none)
pub record State : Type 0 where
  pub expansions : ℕ
  pub cut : Bool
  pub kept : Float
  pub best : List Change

abbrev pub Act : Type 0
Act = State → State

abbrev pub skip : Act
skip st = st

-- "an entry past the limit is turned back, and only that makes the search cut"
abbrev pub turned_back : Act
turned_back st = record { expansions = st.expansions; cut = true; kept = st.kept; best = st.best }

-- "Each entry to an edge is one expansion"
abbrev pub entered : Act
entered st = record { expansions = suc st.expansions; cut = st.cut; kept = st.kept; best = st.best }

abbrev pub keep_reading : Float → List Change → Act
keep_reading t path st = record { expansions = st.expansions; cut = st.cut; kept = t; best = path }

-- a number that no constraint has counts as used
abbrev pub is_used : List Bool → ℕ → Bool
is_used used i = get_or used i true

-- `path_is_complete`: every constraint of every changed edge is used
abbrev pub path_is_complete : List Constraint → List Bool → List Change → Bool
path_is_complete g used path = all (λ (z : Change). all (is_used used) (incidence g z.0)) path

-- `record`: "A complete reading is kept if its cost is below (kept cost - E)"
unfoldable pub record_path : List Constraint → List Bool → List Change → Float → Act
unfolding lt sub
record_path g used path t st =
    cond (lt t (sub binary64 st.kept eps) && path_is_complete g used path) (keep_reading t path) skip st

abbrev pub signed : Bool → List ℕ → List Change
signed s [] = []
signed s (y ∷ ys) = (y, s) ∷ signed s ys

-- "opposite edges in listed order with the same sign, then other edges of the own side with the opposite sign"
abbrev pub partners : Constraint → ℕ → Bool → List Change
partners c x s = signed s (opposite_side c x) ++ signed (not s) (filter (differs x) (own_side c x))

-- the changed edges of c other than x
abbrev pub others_changed : Constraint → ℕ → List Change → List Change
others_changed c x path = select (λ (e : ℕ). differs x e && holds c e) path

-- what a step goes on with: the used constraints, the changes so far, the last edge and its sign, the cost so far
abbrev pub Go : Type 0
Go = List Bool → List Change → ℕ → Bool → Float → Act

-- g and edge_cost are the round's, `allowed` says which changes make no count negative, (x0, s0) is the start
module _ (g : List Constraint) (edge_cost : EdgeCost) (allowed : ℕ → Bool → Bool) (limit : ℕ) (x0 : ℕ) (s0 : Bool) where
  -- `try_step` through constraint i, which is used already: the edge is not changed yet, none of its other constraints is used
  abbrev pub may_step : List Bool → List Change → ℕ → Change → Bool
  may_step used path i z =
      not (any (λ (w : Change). eqb w.0 z.0) path)
      && (not (any (λ (j : ℕ). differs i j && is_used used j) (incidence g z.0)) && allowed z.0 z.1)

  unfoldable pub try_step : Go → List Bool → List Change → Float → ℕ → Change → Act
  unfolding add
  try_step go used path t i z =
      cond (may_step used path i z) (go used (path ++ z ∷ []) z.0 z.1 (add binary64 t (edge_cost z.0 z.1))) skip

  -- one unused constraint i of the last edge x, by the other changed edges in it: none, and it is crossed; one, and it may close the loop at
  -- the start; "stops at the second one found"
  abbrev pub visit_by : Go → List Bool → List Change → ℕ → Bool → Float → ℕ → List Change → Act
  visit_by go used path x s t i [] = each (try_step go (set used i true) path t i) (partners (constraint g i) x s)
  visit_by go used path x s t i (w ∷ []) =
      cond (eqb w.0 x0 && balances (constraint g i) (x0, s0) (x, s)) (record_path g (set used i true) path t) skip
  visit_by go used path x s t i (w ∷ v ∷ r) = skip

  unfoldable pub visit : Go → List Bool → List Change → ℕ → Bool → Float → ℕ → Act
  unfolding try_step record_path
  visit go used path x s t i = visit_by go used path x s t i (others_changed (constraint g i) x path)

  abbrev pub unused : List Bool → ℕ → List ℕ
  unused used x = filter (λ (i : ℕ). not (is_used used i)) (incidence g x)

  -- "constraints in region order"
  abbrev pub enter_by : Go → List Bool → List Change → ℕ → Bool → Float → List ℕ → Act
  enter_by go used path x s t [] = record_path g used path t
  enter_by go used path x s t (i ∷ is) = each (visit go used path x s t) (i ∷ is)

  unfoldable pub enter : Go → Go
  unfolding visit record_path
  enter go used path x s t st = enter_by go used path x s t (unused used x) (entered st)

  -- `dfs`, counted down by a number that one more than the unused constraints is enough for
  unfoldable pub dfs : ℕ → Go
  unfolding enter
  dfs zero used path x s t = skip
  dfs (suc k) used path x s t = λ st. cond (leb limit st.expansions) turned_back (enter (dfs k) used path x s t) st

  -- "the kept cost starts at infinity"
  abbrev pub fresh : State
  fresh = record { expansions = 0; cut = false; kept = inf false; best = [] }

  -- `run`
  unfoldable pub run : State
  unfolding dfs
  run = dfs (suc (length g)) (replicate (length g) false) ((x0, s0) ∷ []) x0 s0 (edge_cost x0 s0) fresh

-- how many constraints are unused
abbrev pub free : List Bool → ℕ
free [] = 0
free (b ∷ bs) = cond b (free bs) (suc (free bs))

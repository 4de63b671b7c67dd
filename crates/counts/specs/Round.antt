-- 01, "Rounds": find_augmentation, one round and solve on accepted input, over any edge cost. Assumes nothing.
use Rattle.std.specs.Prelude.{Bool, true, false, ◌&&◌, ◌||◌, List, [], ◌∷◌, ℕ, zero, suc, length, replicate, Float}
use Rattle.std.proofs.Math.Bool.{cond}
use Rattle.std.specs.Float.{inf, binary64}
use Rattle.std.specs.Float.Ieee.{sub, lt, neg}
use Rattle.base.specs.Lists.{each}
use Rattle.regions.specs.Region.{Constraint}
use Rattle.counts.specs.Move.{Change, EdgeCost, is_allowed, apply_changes}
use Rattle.counts.specs.Cost.{CostModel}
use Rattle.counts.specs.Search.{State, eps, run}

-- whether any search was cut, the kept cost, the kept reading (empty: none)
pub record Found : Type 0 where
  pub cut : Bool
  pub kept : Float
  pub best : List Change

abbrev pub nothing_found : Found
nothing_found = record { cut = false; kept = inf false; best = [] }

-- "it drops costs not below -E and replaces only by a cost below (kept - E)"
abbrev pub improves : Float → Float → Bool
improves kept t = lt t (neg eps) && lt t (sub binary64 kept eps)

abbrev pub weigh : State → Found → Found
weigh st b =
    record {
      cut = b.cut || st.cut;
      kept = cond (improves b.kept st.kept) st.kept b.kept;
      best = cond (improves b.kept st.kept) st.best b.best;
    }

-- "tries edges upward, +1 before -1"
abbrev pub starts : ℕ → ℕ → List Change
starts i zero = []
starts i (suc n) = (i, true) ∷ (i, false) ∷ starts (suc i) n

module _ (g : List Constraint) (edge_cost : EdgeCost) (allowed : ℕ → Bool → Bool) (limit : ℕ) where
  -- "(no -1 at count 0), each start with a fresh limit"
  unfoldable pub try_start : Change → Found → Found
  unfolding run lt sub neg
  try_start z = cond (allowed z.0 z.1) (weigh (run g edge_cost allowed limit z.0 z.1)) (λ b. b)

  -- n edges
  unfoldable pub find_augmentation : ℕ → Found
  unfolding try_start
  find_augmentation n = each try_start (starts 0 n) nothing_found

-- the move of one round on these counts
unfoldable pub find_move : List Constraint → CostModel → List ℕ → ℕ → Found
unfolding find_augmentation
find_move g costs counts limit = find_augmentation g (costs counts) (is_allowed counts) limit (length counts)

-- moves made, counts, and whether a further move was found after the last one allowed
pub record Solved : Type 0 where
  pub moves : ℕ
  pub counts : List ℕ
  pub more : Bool

abbrev pub solve_by : ℕ → ℕ → List ℕ → List Change → (List ℕ → Solved) → Solved
solve_by m k counts [] go = record { moves = k; counts = counts; more = false }
solve_by zero k counts (z ∷ r) go = record { moves = k; counts = counts; more = true }
solve_by (suc m) k counts (z ∷ r) go = go (apply_changes (z ∷ r) counts)

-- "makes round after round until one finds no move": at most m moves, after k
unfoldable pub solve_from : List Constraint → CostModel → ℕ → ℕ → ℕ → List ℕ → Solved
unfolding find_move
solve_from g costs limit zero k counts =
    solve_by zero k counts (find_move g costs counts limit).best (λ c. record { moves = k; counts = c; more = true })
solve_from g costs limit (suc m) k counts =
    solve_by (suc m) k counts (find_move g costs counts limit).best (solve_from g costs limit m (suc k))

-- "at most 200,000 moves"
abbrev pub max_moves : ℕ
max_moves = 200000

-- "`solve_counts` starts from zeros": n edges
unfoldable pub solve_zeros : List Constraint → CostModel → ℕ → ℕ → Solved
unfolding solve_from
solve_zeros g costs limit n = solve_from g costs limit max_moves 0 (replicate n 0)

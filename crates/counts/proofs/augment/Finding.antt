-- The tables of a round stand for its edge costs: what is found by the tables is the move of the definition, and it can be made.
-- Assumes nothing.
use mathlib.Core.Path.{◌≡◌, sym, ap, subst, ◌∙◌}
use mathlib.Core.Bool.{Bool, true, false, cond}
use mathlib.Core.List.{List}
use Prim.Native.Nat.{ℕ, zero, suc, ◌*◌, ◌≤◌, ◌<◌}
use native.Mathlib.Nat.{add-zero, zero-add}
use lib.ListN.{length, get_or, replicate, length-replicate}
use lib.Dec.{T, ltb, ltb→lt, lt→ltb}
use lib.Ieee.{Float, nan}
use Rattle.regions.specs.Region.{Constraint, places}
use Rattle.counts.specs.Move.{Change, EdgeCost, is_allowed}
use Rattle.counts.specs.Cost.{CostModel}
use Rattle.counts.specs.inner.Tables.{Entries, CostsFilled, the_graph, cost_in, allowed_in, changes}
use Rattle.counts.specs.Search.{State, run}
use Rattle.counts.specs.Round.{Found, weigh, starts, nothing_found, try_start, find_augmentation, find_move}
use Rattle.counts.specs.inner.RoundContract.{Priced, CanApply, SolveInput, Remembered}
use Rattle.counts.proofs.Accepted.{Accepted, regions_ok}
use Rattle.counts.proofs.Find.{none, some, starts_below}
use Rattle.base.proofs.ListLaws.{every_in, each_same}
use Rattle.counts.proofs.Rounds.{Finds, found}
use Rattle.counts.proofs.search.Alike.{run_same}
use Rattle.counts.specs.Values.{max_count}

-- ---- tables filled edge by edge

module _ {counts : List ℕ} {model : CostModel} {costs : List Float} {allowed : List Bool} where
  pub entry_cost : {y : ℕ} (s : Bool) → Entries counts model costs allowed y → cost_in costs y s ≡ model counts y s
  entry_cost true r = r.plus_cost
  entry_cost {y} false r = ap (λ (k : ℕ). get_or costs k nan) (add-zero (y * 2)) ∙ r.minus_cost

  pub entry_allowed : {y : ℕ} (s : Bool) → Entries counts model costs allowed y → allowed_in allowed y s ≡ is_allowed counts y s
  entry_allowed true r = r.plus_allowed
  entry_allowed {y} false r = ap (λ (k : ℕ). get_or allowed k false) (add-zero (y * 2)) ∙ r.minus_allowed

  pub priced : CostsFilled (length counts) counts model costs allowed → Priced model counts costs allowed
  priced f =
      record {
        costs_long = f.costs_long;
        allowed_long = f.allowed_long;
        cost_is = λ y s h. entry_cost s (f.entries y h);
        allowed_is = λ y s h. entry_allowed s (f.entries y h);
      }

-- ---- costs that agree below n find the same

module _ (g : List Constraint) (n : ℕ) (ok : Accepted n g) (limit : ℕ) (cost cost' : EdgeCost) (allowed allowed' : ℕ → Bool → Bool)
    (same_cost : (y : ℕ) (s : Bool) → y < n → cost y s ≡ cost' y s) (same_allowed : (y : ℕ) (s : Bool) → y < n → allowed y s ≡ allowed' y s) where
  start_same : (z : Change) (b : Found) → z.0 < n → try_start g cost allowed limit z b ≡ try_start g cost' allowed' limit z b
  unfolding try_start
  start_same z b h =
      ap (λ (t : Bool). cond t (weigh (run g cost allowed limit z.0 z.1)) (λ b. b) b) (same_allowed z.0 z.1 h)
      ∙ ap (λ (st : State). cond (allowed' z.0 z.1) (weigh st) (λ b. b) b)
      (run_same g cost cost' allowed allowed' limit z.0 z.1 (λ (y : ℕ). ltb y n) (λ i x y hx hy k. (ok.constraint_ok i).inside y hy)
      (λ y s k. same_cost y s (ltb→lt y n k)) (λ y s k. same_allowed y s (ltb→lt y n k)) (lt→ltb z.0 n h))

  pub find_same : find_augmentation g cost allowed limit n ≡ find_augmentation g cost' allowed' limit n
  unfolding find_augmentation
  find_same = each_same (try_start g cost allowed limit) (try_start g cost' allowed' limit) (starts 0 n)
      (λ z i b. start_same z b (subst (λ (m : ℕ). z.0 < m) (zero-add n) (starts_below 0 n z i))) nothing_found

pub by_tables : (regions : List ℕ) (limit : ℕ) {model : CostModel} {counts : List ℕ} {costs : List Float} {allowed : List Bool}
    → Accepted (length counts) (the_graph regions) → Priced model counts costs allowed
    → find_augmentation (the_graph regions) (cost_in costs) (allowed_in allowed) limit (length counts) ≡ find_move (the_graph regions) model counts
    limit
unfolding find_move
by_tables regions limit {model} {counts} {costs} {allowed} ok p =
    find_same (the_graph regions) (length counts) ok limit (cost_in costs) (model counts) (allowed_in allowed) (is_allowed counts) p.cost_is
    p.allowed_is

-- ---- what is found can be made

pub can_apply : (costs : CostModel) (limit : ℕ) {g : List Constraint} {counts : List ℕ} → Accepted (length counts) g
    → ((x : ℕ) → get_or counts x 0 ≤ max_count) → CanApply counts (find_move g costs counts limit).best
can_apply costs limit {g} {counts} ok small = go (found g counts ok costs limit)
  where
    b : Found
    b = find_move g costs counts limit

    go : Finds g counts ok costs limit b → CanApply counts b.best
    go (none k e) =
        subst (λ (l : List Change). CanApply counts l) (sym e)
        (record { distinct = tt; below = λ z i. absurd i; down = λ z i. absurd i; small = small })
    go (some r c l) =
        record {
          distinct = r.move.distinct;
          below = λ z i. ltb→lt z.0 (length counts) (every_in (λ (w : Change). ltb w.0 (length counts)) b.best r.move.there z i);
          down = λ z i. every_in (λ (w : Change). is_allowed counts w.0 w.1) b.best r.move.down z i;
          small = small;
        }

-- ---- nothing known

not_known : (n c : ℕ) → get_or (replicate n false) c false ≡ true → ⊥
not_known zero c e = let z : T false = subst T (sym e) tt in z
not_known (suc n) zero e = let z : T false = subst T (sym e) tt in z
not_known (suc n) (suc c) e = not_known n c e

pub nothing_known : {regions : List ℕ} {costs : List Float} {allowed : List Bool} {limit : ℕ} {kept : List Float} {cut known : List Bool}
    → length kept ≡ changes → length cut ≡ changes → known ≡ replicate changes false → Remembered regions costs allowed limit kept cut known
nothing_known k t e =
    record {
      kept_long = k;
      cut_long = t;
      known_long = ap length e ∙ length-replicate changes false;
      right = λ c h q. absurd (not_known changes c (sym (ap (λ (l : List Bool). get_or l c false) e) ∙ q));
    }

pub tested_ok : {regions incident own : List ℕ} {least most : List Float} {counts : List ℕ} → SolveInput regions incident own least most counts
    → Accepted (length counts) (the_graph regions)
tested_ok {regions = regions} {counts = counts} t = regions_ok places (length counts) regions t.regions_pass

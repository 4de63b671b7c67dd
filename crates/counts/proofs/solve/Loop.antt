-- A round by what was found, and a solve move by move. What the tables give is the move of the definition (`move_found`), so a round that finds no
-- change is idle, and any other makes that move. A solve's loop keeps that the rest of the solve from here is the whole solve (`Progress`): with no
-- move it ends, with a move too many it stops, and with a move more it goes on, from tables that stand for the counts after the move.
-- Assumes nothing.
use mathlib.Core.Logic.{◌≢◌, ◌⊎◌, inl, inr}
use mathlib.Core.Path.{◌≡◌, refl, sym, ap, subst, ◌∙◌}
use mathlib.Core.Bool.{Bool, true, false}
use mathlib.Core.List.{List, [], ◌∷◌}
use Prim.Native.Nat.{ℕ, zero, suc, ◌+◌, ◌-◌, ◌/◌, ◌≤◌}
use native.Mathlib.Numerals.{add-one}
use native.Mathlib.Omega.{arith}
use lib.ListN.{length, get_or, replicate}
use lib.Dec.{T, eqb, eqb→eq}
use lib.Ieee.{Float}
use Rattle.std.specs.Prelude.{Ok, Some, None}
use Rattle.base.specs.Lists.{In, member}
use Rattle.base.specs.Refusal.{passed, is_passed}
use Rattle.regions.specs.Region.{places}
use Rattle.counts.specs.Move.{Change, edges, apply_changes}
use Rattle.counts.specs.Cost.{CostModel, Local}
use Rattle.counts.specs.Round.{Found, find_move, solve_from, max_moves}
use Rattle.regions.specs.Accept.{regions_test}
use Rattle.counts.specs.Solver.{made, round_of, round_made, round_by}
use Rattle.counts.specs.inner.Tables.{the_graph, decoded, path_of, path_size}
use Rattle.counts.specs.inner.Components.{Labels, Refreshed}
use Rattle.counts.specs.inner.RoundContract.{Buffers, RoundInput, CanApply, MayApply, Priced, Ready, FoundIn, found_of}
use Rattle.counts.specs.declared.augment.FoundMove.{FoundMove}
use Rattle.counts.proofs.augment.Applying.{apply_length}
use Rattle.base.proofs.BoolLaws.{by_cases, or_split}
use Rattle.counts.proofs.augment.Finding.{by_tables, can_apply, tested_ok}
use Rattle.counts.proofs.solve.Keeping.{ready_again, one_component}
use Rattle.counts.proofs.Makes.{makes_apply}
use Rattle.counts.proofs.search.Slots.{start_in}
use Rattle.counts.proofs.Solving.{getD_zeros}

-- ---- the move found

abbrev round_at : List ℕ → CostModel → List ℕ → ℕ → Found
round_at regions model counts limit = find_move (the_graph regions) model counts limit

-- What was found is the move of the definition; its `len` changes stand in `best`.
pub record MoveFound (regions : List ℕ) (model : CostModel) (limit : ℕ) (counts best : List ℕ) (len : ℕ) (r : FoundMove) : Type 0 where
  pub is : found_of r best ≡ round_at regions model counts limit
  pub len_is : len ≡ r.len
  pub len_fits : len ≤ path_size
  pub best_long : length best ≡ path_size

pub move_found : {regions incident own : List ℕ} {least most : List Float} {model : CostModel} {limit : ℕ} {counts : List ℕ} {costs : List Float}
    {allowed used : List Bool} {path best : List ℕ} {kept : List Float} {cut known : List Bool} {len : ℕ} {r : FoundMove}
    → RoundInput regions incident own least most counts → Priced model counts costs allowed
    → FoundIn regions costs allowed limit (length counts) used path best kept cut known r → len ≡ r.len
    → MoveFound regions model limit counts best len r
move_found {regions} {limit = limit} t p f e =
    record {
      is = f.answer ∙ by_tables regions limit (tested_ok t.input) p;
      len_is = e;
      len_fits = let h = f.len_fits in omega arith;
      best_long = f.buffers.best_long;
    }

-- a buffer that holds a change
path_some : (n : ℕ) (best : List ℕ) → n ≢ 0 → length best ≡ path_size → (z : Change) × (r : List Change) × (path_of n best ≡ z ∷ r)
path_some zero best h l = absurd (h refl)
path_some (suc n) [] h l = absurd (omega arith)
path_some (suc n) (c ∷ best) h l = (_, _, refl)

module _ {regions : List ℕ} {model : CostModel} {limit : ℕ} {counts best : List ℕ} {len : ℕ} {r : FoundMove}
    (f : MoveFound regions model limit counts best len r) where
  abbrev b : Found
  b = round_at regions model counts limit

  best_path : path_of len best ≡ b.best
  best_path = ap (λ (k : ℕ). path_of k best) f.len_is ∙ ap (λ (m : Found). m.best) f.is

  found_none : len ≡ 0 → b.best ≡ []
  found_none e = sym best_path ∙ ap (λ (k : ℕ). path_of k best) e

  found_some : len ≢ 0 → (z : Change) × (l : List Change) × (b.best ≡ z ∷ l)
  found_some n = let s = path_some len best n f.best_long in (s.0, s.1, sym best_path ∙ s.2)

  -- ---- a round

  answered : (l : List Change) → b.best ≡ l → round_made r.cut l r.kept counts ≡ round_by b counts
  answered l e =
      ap (λ (m : List Change). round_made r.cut m r.kept counts) (sym e ∙ sym (ap (λ (m : Found). m.best) f.is))
      ∙ ap (λ (m : Found). round_by m counts) f.is

  pub round_idle : len ≡ 0 → round_of (Ok (record { cost = None; cut = r.cut })) counts ≡ round_by b counts
  unfolding round_of
  round_idle e = answered [] (found_none e)

  pub round_moved : {after : List ℕ} → len ≢ 0 → after ≡ apply_changes (path_of len best) counts
      → round_of (Ok (record { cost = Some r.kept; cut = r.cut })) after ≡ round_by b counts
  unfolding round_of
  round_moved n e =
      let s = found_some n in
      ap (λ (c : List ℕ). record { verdict = passed; move = made r.kept; cut = r.cut; counts = c })
      (e ∙ ap (λ (l : List Change). apply_changes l counts) (best_path ∙ s.2))
      ∙ answered (s.0 ∷ s.1) s.2

  -- the move can be made
  pub move_can : {incident own : List ℕ} {least most : List Float} → RoundInput regions incident own least most counts → MayApply counts best len
  move_can t =
      record {
        can = subst (λ (m : List Change). CanApply counts m) (sym best_path) (can_apply model limit (tested_ok t.input) t.small);
        len_fits = f.len_fits;
        best_long = f.best_long;
      }

  -- the counts after it, by the move found
  move_made : {after : List ℕ} → after ≡ apply_changes (path_of len best) counts → after ≡ apply_changes b.best counts
  move_made e = e ∙ ap (λ (m : List Change). apply_changes m counts) best_path

  -- the tables after it stand for the counts after it
  pub stays_ready : {incident own labels : List ℕ} {least most : List Float} {after : List ℕ} {costs costs' : List Float}
      {allowed allowed' : List Bool} {kept : List Float} {cut known known' : List Bool} → Local model
      → RoundInput regions incident own least most counts → Labels (length counts) incident labels
      → Ready regions model limit counts costs allowed kept cut known → len ≢ 0 → after ≡ apply_changes (path_of len best) counts
      → Refreshed (length counts) labels (get_or labels (get_or best 0 0 / 2) 0) after model costs allowed known costs' allowed' known'
      → Ready regions model limit after costs' allowed' kept cut known'
  stays_ready local t lab ready n now fresh =
      let first = decoded (get_or best 0 0) in
      let there : In first b.best =
      subst (λ (m : List Change). In first m) best_path (start_in best len (omega (arith, n)) (let q = f.best_long in omega (arith, q))) in
      ready_again b.best local t.input lab ready (move_made now) (λ z i. one_component model limit t.input lab z first i there) fresh

-- ---- a solve

-- what the loop keeps: the rest of the solve from here is the whole solve
pub record Progress (regions : List ℕ) (model : CostModel) (limit : ℕ) (start counts : List ℕ) (moves : ℕ) (costs : List Float)
    (allowed used : List Bool) (path best : List ℕ) (kept : List Float) (cut known : List Bool) : Type 0 where
  pub rest : solve_from (the_graph regions) model limit (max_moves - moves) moves counts
      ≡ solve_from (the_graph regions) model limit max_moves 0 start
  pub allowed_moves : moves ≤ max_moves
  pub bounded : (x : ℕ) → get_or counts x 0 ≤ moves
  pub as_long : length counts ≡ length start
  pub buffers : Buffers used path best
  pub ready : Ready regions model limit counts costs allowed kept cut known

pub solving_starts : {regions : List ℕ} {model : CostModel} {limit : ℕ} {start : List ℕ} {costs : List Float} {allowed used : List Bool}
    {path best : List ℕ} {kept : List Float} {cut known : List Bool} → start ≡ replicate (length start) 0 → Buffers used path best
    → Ready regions model limit start costs allowed kept cut known
    → Progress regions model limit start start 0 costs allowed used path best kept cut known
solving_starts {start = start} e b z =
    record {
      rest = refl;
      allowed_moves = omega arith;
      bounded = λ x. (let q : get_or start x 0 ≡ 0 = ap (λ (l : List ℕ). get_or l x 0) e ∙ getD_zeros (length start) x in omega arith);
      as_long = refl;
      buffers = b;
      ready = z;
    }

-- one turn of the definition: no move, a move too many, a move more
module _ (regions : List ℕ) (model : CostModel) (limit : ℕ) (counts : List ℕ) (moves : ℕ) where
  ends : (m : ℕ) → (round_at regions model counts limit).best ≡ []
      → record { moves = moves; counts = counts; more = false } ≡ solve_from (the_graph regions) model limit m moves counts
  unfolding solve_from
  ends zero e = rw e
  ends (suc m) e = rw e

  stops : (z : Change) (l : List Change) → (round_at regions model counts limit).best ≡ z ∷ l
      → record { moves = moves; counts = counts; more = true } ≡ solve_from (the_graph regions) model limit zero moves counts
  unfolding solve_from
  stops z l e = rw e

  goes_on : (m : ℕ) (z : Change) (l : List Change) → (round_at regions model counts limit).best ≡ z ∷ l
      → solve_from (the_graph regions) model limit m (suc moves) (apply_changes (round_at regions model counts limit).best counts)
      ≡ solve_from (the_graph regions) model limit (suc m) moves counts
  unfolding solve_from
  goes_on m z l e = rw e

in_edges : (x : ℕ) (l : List Change) → T (member x (edges l)) → In (x, true) l ⊎ In (x, false) l
in_edges x [] u = absurd u
in_edges x (z ∷ l) u =
    elim (or_split (eqb x z.0) (member x (edges l)) u) [
      | inl q ↦ by_sign z.1 refl (eqb→eq x z.0 q)
      | inr m ↦ elim (in_edges x l m) [ inl i ↦ inl (inr i) | inr i ↦ inr (inr i) ]
    ]
  where
    by_sign : (b : Bool) → z.1 ≡ b → x ≡ z.0 → In (x, true) (z ∷ l) ⊎ In (x, false) (z ∷ l)
    by_sign true e q = inl (inl (ap (λ (k : ℕ). (k, true)) q ∙ ap (λ (b : Bool). (z.0, b)) (sym e)))
    by_sign false e q = inr (inl (ap (λ (k : ℕ). (k, false)) q ∙ ap (λ (b : Bool). (z.0, b)) (sym e)))

module _ {regions : List ℕ} {model : CostModel} {limit : ℕ} {start counts : List ℕ} {moves : ℕ} {costs : List Float} {allowed used : List Bool}
    {path best : List ℕ} {kept : List Float} {cut known : List Bool}
    (s : Progress regions model limit start counts moves costs allowed used path best kept cut known) where
  -- the counts on the way are a round's input, as the zeros were
  pub still_tested : {incident own : List ℕ} {least most : List Float} → RoundInput regions incident own least most start
      → RoundInput regions incident own least most counts
  still_tested t =
      let e = s.as_long in
      record {
        input =
            record {
              tables = t.input.tables;
              few = let f = t.input.few in omega arith;
              least_long = t.input.least_long ∙ sym e;
              most_long = t.input.most_long ∙ sym e;
              regions_pass = subst (λ (n : ℕ). T (is_passed (regions_test places n regions))) (sym e) t.input.regions_pass;
            };
        small = λ x. (let b = s.bounded x in let m = s.allowed_moves in omega arith);
      }

  pub still_labelled : {incident labels : List ℕ} → Labels (length start) incident labels → Labels (length counts) incident labels
  still_labelled {incident} {labels} l = subst (λ (n : ℕ). Labels n incident labels) (sym s.as_long) l

  module _ {best' : List ℕ} {len : ℕ} {r : FoundMove} (f : MoveFound regions model limit counts best' len r) where
    pub solve_ends : len ≡ 0 → record { moves = moves; counts = counts; more = false } ≡ solve_from (the_graph regions) model limit max_moves 0 start
    solve_ends e = ends regions model limit counts moves (max_moves - moves) (found_none f e) ∙ s.rest

    pub solve_stops : len ≢ 0 → moves ≡ max_moves
        → record { moves = max_moves; counts = counts; more = true } ≡ solve_from (the_graph regions) model limit max_moves 0 start
    solve_stops n h =
        let m = found_some f n in
        let q : 0 ≡ max_moves - moves = omega arith in
        ap (λ (k : ℕ). record { moves = k; counts = counts; more = true }) (sym h)
        ∙ stops regions model limit counts moves m.0 m.1 m.2
        ∙ ap (λ (k : ℕ). solve_from (the_graph regions) model limit k moves counts) q
        ∙ s.rest

    more_bounded : {incident own : List ℕ} {least most : List Float} → RoundInput regions incident own least most counts → (x : ℕ)
        → get_or (apply_changes (round_at regions model counts limit).best counts) x 0 ≤ moves + 1
    more_bounded t x =
        let l = (round_at regions model counts limit).best in
        let can = can_apply model limit (tested_ok t.input) t.small in
        let m = makes_apply l counts can.distinct can.below can.down in
        let b = s.bounded x in
        by_cases (member x (edges l))
        (λ u. elim (in_edges x l u) [ inl i ↦ (let e = m.plus x i in omega arith) | inr i ↦ (let e = m.minus x i in omega arith) ])
        (λ u. let e = m.other x u in omega arith)

    pub solve_goes_on : {incident own : List ℕ} {least most : List Float} {after : List ℕ} {costs' : List Float} {allowed' used' : List Bool}
        {path' : List ℕ} {kept' : List Float} {cut' known' : List Bool} → RoundInput regions incident own least most counts → len ≢ 0
        → moves ≢ max_moves → after ≡ apply_changes (path_of len best') counts → Buffers used' path' best'
        → Ready regions model limit after costs' allowed' kept' cut' known'
        → Progress regions model limit start after (moves + 1) costs' allowed' used' path' best' kept' cut' known'
    solve_goes_on t n h e b z =
        let l = (round_at regions model counts limit).best in
        let rest_from = solve_from (the_graph regions) model limit in
        let a = move_made f e in
        let m = found_some f n in
        let k = s.allowed_moves in
        let q : suc (max_moves - (moves + 1)) ≡ max_moves - moves = omega arith in
        record {
          rest =
              ap (λ (c : List ℕ). rest_from (max_moves - (moves + 1)) (moves + 1) c) a
              ∙ ap (λ (i : ℕ). rest_from (max_moves - (moves + 1)) i (apply_changes l counts)) (add-one moves)
              ∙ goes_on regions model limit counts moves (max_moves - (moves + 1)) m.0 m.1 m.2
              ∙ ap (λ (i : ℕ). rest_from i moves counts) q
              ∙ s.rest;
          allowed_moves = omega arith;
          bounded = λ x. subst (λ (c : List ℕ). get_or c x 0 ≤ moves + 1) (sym a) (more_bounded t x);
          as_long = ap length a ∙ apply_length l counts ∙ s.as_long;
          buffers = b;
          ready = z;
        }

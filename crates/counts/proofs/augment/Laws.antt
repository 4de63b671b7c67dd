-- The choice among the starts is find_augmentation: weighing what each search kept, start after start, and searching the winner once more
-- gives the move that the definition finds. Assumes nothing.
use mathlib.Core.Logic.{◌≢◌}
use mathlib.Core.Path.{◌≡◌, refl, sym, ap, subst, ◌∙◌}
use mathlib.Core.Bool.{Bool, true, false, ◌||◌, cond}
use mathlib.Core.List.{List, [], ◌∷◌, ◌++◌}
use Prim.Native.Nat.{ℕ, zero, suc, ◌+◌, ◌*◌, ◌/◌, ◌%◌, ◌≤◌, ◌<◌}
use native.Mathlib.Nat.{add-zero, add-suc, suc-add, zero-add, suc-mul}
use native.Mathlib.Numerals.{add-one, add-two}
use native.Mathlib.Omega.{arith}
use lib.ListN.{get_or, set, length-set}
use lib.Seq.{get_or-set_same, get_or-set_other}
use lib.Dec.{eqb, eqb→eq}
use lib.Ieee.{Float, nan, lt, neg, of_bits}
use Rattle.base.specs.Lists.{each}
use Rattle.counts.specs.Move.{Change}
use Rattle.counts.specs.Search.{State, run}
use Rattle.counts.specs.Round.{Found, nothing_found, improves, weigh, starts, try_start, find_augmentation}
use Rattle.counts.specs.inner.Tables.{the_graph, cost_in, allowed_in, state_of, changes}
use Rattle.counts.specs.inner.RoundContract.{Buffers, search_of, nothing_searched, SearchedFrom, Result, Remembered, MayRecall, Recalled}
use Rattle.counts.specs.inner.RoundContract.{AllKnown, ChosenOf, StartIs, start_at, no_start, weighed, chosen, FoundIn}
use Rattle.counts.specs.inner.SearchContract.{Searched, fresh_state}
use Rattle.counts.specs.declared.augment.Choice.{Choice}
use Rattle.counts.specs.declared.search.SearchState.{SearchState}
use Rattle.regions.specs.Accept.{max_edges}
use Rattle.base.proofs.BoolLaws.{by_cases, clash, eq→eqb, ne→eqb, same→eqb}
use Rattle.counts.proofs.search.Slots.{encoded_decoded}
use Rattle.counts.proofs.search.Laws.{each_append}

-- ---- one start

by_allowed : (regions : List ℕ) (costs : List Float) (allowed : List Bool) (limit c : ℕ) (b : Bool) → get_or allowed c false ≡ b
    → search_of regions costs allowed limit c
    ≡ cond b (run (the_graph regions) (cost_in costs) (allowed_in allowed) limit (c / 2) (eqb (c % 2) 1)) nothing_searched
unfolding search_of
by_allowed regions costs allowed limit c b e =
    ap (λ (t : Bool). cond t (run (the_graph regions) (cost_in costs) (allowed_in allowed) limit (c / 2) (eqb (c % 2) 1)) nothing_searched)
    (ap (λ (k : ℕ). get_or allowed k false) (encoded_decoded c) ∙ e)

module _ {regions : List ℕ} {costs : List Float} {allowed : List Bool} {limit c : ℕ} {used : List Bool} {path best : List ℕ} {r : SearchState} where
  pub searched : get_or allowed c false ≡ true → Searched regions costs allowed limit c used path best r
      → SearchedFrom regions costs allowed limit c used path best r
  searched e s =
      record {
        answer = s.answer ∙ sym (by_allowed regions costs allowed limit c true e);
        buffers = record { unmarked = s.used_kept; path_long = s.long_kept; best_long = s.best_kept };
        len_fits = s.short;
      }

  pub not_searched : get_or allowed c false ≡ false → r ≡ fresh_state → Buffers used path best
      → SearchedFrom regions costs allowed limit c used path best r
  not_searched e f b =
      record {
        answer = ap (λ (s : SearchState). state_of s best) f ∙ sym (by_allowed regions costs allowed limit c false e);
        buffers = b;
        len_fits = let l = ap (λ (s : SearchState). s.len) f in omega (arith, l);
      }

-- ---- the starts in their order

starts_more : (i n : ℕ) → starts i (suc n) ≡ starts i n ++ (i + n, true) ∷ (i + n, false) ∷ []
starts_more i zero = ap (λ (k : ℕ). (k, true) ∷ (k, false) ∷ []) (sym (add-zero i))
starts_more i (suc n) =
    ap {B = List Change} (λ l. (i, true) ∷ (i, false) ∷ l)
    (starts_more (suc i) n ∙ ap (λ (k : ℕ). starts (suc i) n ++ (k, true) ∷ (k, false) ∷ []) (suc-add i n ∙ sym (add-suc i n)))

or_false : (b : Bool) → b || false ≡ b
or_false true = refl
or_false false = refl

-- a start that is none changes nothing
weigh_nothing : (b : Found) → weigh nothing_searched b ≡ b
unfolding lt neg of_bits
weigh_nothing b = ap (λ (c : Bool). record { cut = c; kept = b.kept; best = b.best }) (or_false b.cut)

-- ---- the choice

module _ (regions : List ℕ) (costs : List Float) (allowed : List Bool) (limit : ℕ) where
  abbrev at : ℕ → State
  at c = search_of regions costs allowed limit c

  -- the move of a choice: the winner's
  unfoldable pub found_by : Choice → Found
  found_by p = record { cut = p.cut; kept = p.kept; best = cond (eqb p.winner no_start) [] (at p.winner).best }

  -- what is weighed at a start
  abbrev state : Change → State
  state z =
      cond (allowed_in allowed z.0 z.1) (run (the_graph regions) (cost_in costs) (allowed_in allowed) limit z.0 z.1) nothing_searched

  start_is : (z : Change) (b : Found) → try_start (the_graph regions) (cost_in costs) (allowed_in allowed) limit z b ≡ weigh (state z) b
  unfolding try_start
  start_is z b = go (allowed_in allowed z.0 z.1)
    where
      go : (y : Bool)
          → cond y (weigh (run (the_graph regions) (cost_in costs) (allowed_in allowed) limit z.0 z.1)) (λ b. b) b
          ≡ weigh (cond y (run (the_graph regions) (cost_in costs) (allowed_in allowed) limit z.0 z.1) nothing_searched) b
      go true = refl
      go false = sym (weigh_nothing b)

  -- a start weighed among the choices is its search weighed among the moves
  weighed_found : (p : Choice) (c : ℕ) → c ≢ no_start → found_by (weighed p (at c).kept (at c).cut c) ≡ weigh (at c) (found_by p)
  unfolding found_by weighed
  weighed_found p c n =
      ap (λ (l : List Change). record { cut = p.cut || (at c).cut; kept = cond (improves p.kept (at c).kept) (at c).kept p.kept; best = l })
      (go (improves p.kept (at c).kept))
    where
      go : (b : Bool)
          → cond (eqb (cond b c p.winner) no_start) [] (at (cond b c p.winner)).best
          ≡ cond b (at c).best (cond (eqb p.winner no_start) [] (at p.winner).best)
      go true = ap (λ (e : Bool). cond e [] (at c).best) (ne→eqb c no_start n)
      go false = refl

  module _ (kept : List Float) (cut : List Bool) where
    abbrev next : Choice → ℕ → Choice
    next p c = weighed p (get_or kept c nan) (get_or cut c false) c

    next_found : (p : Choice) (c : ℕ) → c < no_start → Result regions costs allowed limit c kept cut → found_by (next p c) ≡ weigh (at c) (found_by p)
    next_found p c h r =
        ap (λ (k : Float). found_by (weighed p k (get_or cut c false) c)) r.kept_is
        ∙ ap (λ (b : Bool). found_by (weighed p (at c).kept b c)) r.cut_is
        ∙ weighed_found p c (λ e. omega arith)

    -- both starts of edge n
    plus_at : (n : ℕ) → (start_at (n * 2) ≡ n * 2 + 1) × (start_at (suc (n * 2)) ≡ n * 2)
    plus_at n = (omega arith, omega arith)

    state_plus : (n : ℕ) → at (n * 2 + 1) ≡ state (n, true)
    unfolding search_of
    state_plus n =
        let q : (n * 2 + 1) / 2 ≡ n = omega arith in
        let m : (n * 2 + 1) % 2 ≡ 1 = omega arith in
        ap (λ (k : ℕ). state (k, eqb ((n * 2 + 1) % 2) 1)) q ∙ ap (λ (k : ℕ). state (n, eqb k 1)) m

    state_minus : (n : ℕ) → at (n * 2) ≡ state (n, false)
    unfolding search_of
    state_minus n =
        let q : n * 2 / 2 ≡ n = omega arith in
        let m : n * 2 % 2 ≡ 0 = omega arith in
        ap (λ (k : ℕ). state (k, eqb (n * 2 % 2) 1)) q ∙ ap (λ (k : ℕ). state (n, eqb k 1)) m

    edge_found : (n : ℕ) (p : Choice) → suc n ≤ max_edges → Result regions costs allowed limit (n * 2 + 1) kept cut
        → Result regions costs allowed limit (n * 2) kept cut
        → found_by (next (next p (start_at (n * 2))) (start_at (suc (n * 2)))) ≡ weigh (state (n, false)) (weigh (state (n, true)) (found_by p))
    edge_found n p h r s =
        ap (λ (c : ℕ). found_by (next (next p c) (start_at (suc (n * 2))))) (plus_at n).0
        ∙ ap (λ (c : ℕ). found_by (next (next p (n * 2 + 1)) c)) (plus_at n).1
        ∙ next_found (next p (n * 2 + 1)) (n * 2) (omega arith) s
        ∙ ap (λ (b : Found). weigh (at (n * 2)) b) (next_found p (n * 2 + 1) (omega arith) r)
        ∙ ap (λ (st : State). weigh st (weigh (at (n * 2 + 1)) (found_by p))) (state_minus n)
        ∙ ap (λ (st : State). weigh (state (n, false)) (weigh st (found_by p))) (state_plus n)

    abbrev tries : ℕ → Found
    tries n = each (try_start (the_graph regions) (cost_in costs) (allowed_in allowed) limit) (starts 0 n) nothing_found

    tries_more : (n : ℕ) → tries (suc n) ≡ weigh (state (n, false)) (weigh (state (n, true)) (tries n))
    tries_more n =
        let try = try_start (the_graph regions) (cost_in costs) (allowed_in allowed) limit in
        ap (λ (l : List Change). each try l nothing_found) (starts_more 0 n ∙ ap (λ (k : ℕ). starts 0 n ++ (k, true) ∷ (k, false) ∷ []) (zero-add n))
        ∙ each_append try (starts 0 n) ((n, true) ∷ (n, false) ∷ []) nothing_found
        ∙ ap (λ (b : Found). try (n, false) b) (start_is (n, true) (tries n))
        ∙ start_is (n, false) (weigh (state (n, true)) (tries n))

    chosen_tries : (n : ℕ) → n ≤ max_edges → ((c : ℕ) → c < n * 2 → Result regions costs allowed limit c kept cut)
        → found_by (chosen kept cut (n * 2)) ≡ tries n
    unfolding chosen found_by
    chosen_tries zero h r = refl
    chosen_tries (suc n) h r =
        ap (λ (k : ℕ). found_by (chosen kept cut k)) (suc-mul n 2 ∙ add-two (n * 2))
        ∙ edge_found n (chosen kept cut (n * 2)) h (r (n * 2 + 1) (omega arith)) (r (n * 2) (omega arith))
        ∙ ap (λ (b : Found). weigh (state (n, false)) (weigh (state (n, true)) b)) (chosen_tries n (omega arith) (λ c l. r c (omega arith)))
        ∙ sym (tries_more n)

    pub chosen_found : (n : ℕ) → n ≤ max_edges → ((c : ℕ) → c < n * 2 → Result regions costs allowed limit c kept cut)
        → found_by (chosen kept cut (n * 2)) ≡ find_augmentation (the_graph regions) (cost_in costs) (allowed_in allowed) limit n
    unfolding find_augmentation
    chosen_found n h r = chosen_tries n h r

-- ---- the loop that chooses

-- among the first k starts of n edges
pub record Choosing (kept : List Float) (cut : List Bool) (n : ℕ) (out : Choice) (k : ℕ) : Type 0 where
  pub is : out ≡ chosen kept cut k
  pub winner_fits : out.winner ≤ no_start
  pub in_range : k ≤ n * 2

module _ {kept : List Float} {cut : List Bool} {n : ℕ} {out : Choice} {k : ℕ} (so_far : Choosing kept cut n out k) where
  pub choose_turn : {c : ℕ} {out' : Choice} → k < n * 2 → StartIs k c → out' ≡ weighed out (get_or kept c nan) (get_or cut c false) c
      → Choosing kept cut n out' (k + 1)
  unfolding chosen weighed
  choose_turn {c} {out'} h s w =
      record {
        is = w
            ∙ ap (λ (x : ℕ). weighed out (get_or kept x nan) (get_or cut x false) x) s.is
            ∙ ap (λ (b : Choice). weighed b (get_or kept (start_at k) nan) (get_or cut (start_at k) false) (start_at k)) so_far.is
            ∙ ap (chosen kept cut) (sym (add-one k));
        winner_fits = subst (λ (b : Choice). b.winner ≤ no_start) (sym w) (either (improves out.kept (get_or kept c nan)));
        in_range = omega arith;
      }
    where
      either : (b : Bool) → cond b c out.winner ≤ no_start
      either true = let l = s.below in omega arith
      either false = so_far.winner_fits

  pub choose_done : n * 2 ≤ k → ChosenOf kept cut n out
  choose_done h =
      record { is = so_far.is ∙ ap (chosen kept cut) (let l = so_far.in_range in omega arith); winner_fits = so_far.winner_fits }

-- ---- results remembered

module _ {regions incident own : List ℕ} {costs : List Float} {allowed : List Bool} {limit c : ℕ} {used : List Bool} {path best : List ℕ}
    {kept : List Float} {cut known : List Bool} {used' : List Bool} {path' best' : List ℕ} {r : SearchState}
    (may : MayRecall regions incident own costs allowed limit used path best kept cut known c)
    (s : SearchedFrom regions costs allowed limit c used' path' best' r) where
  h : c < changes
  h = may.searching.below

  m : Remembered regions costs allowed limit kept cut known
  m = may.remembered

  set_known : (d : ℕ) → get_or (set known c true) d false ≡ true → (d ≢ c → get_or known d false ≡ true)
  set_known d e n = sym (get_or-set_other known c d true false n) ∙ e

  new_result : Result regions costs allowed limit c (set kept c r.kept) (set cut c r.cut)
  new_result =
      record {
        kept_is = get_or-set_same kept c r.kept nan (subst (λ (n : ℕ). c < n) (sym m.kept_long) h) ∙ ap (λ (s : State). s.kept) s.answer;
        cut_is = get_or-set_same cut c r.cut false (subst (λ (n : ℕ). c < n) (sym m.cut_long) h) ∙ ap (λ (s : State). s.cut) s.answer;
      }

  old_result : (d : ℕ) → d ≢ c → Result regions costs allowed limit d kept cut
      → Result regions costs allowed limit d (set kept c r.kept) (set cut c r.cut)
  old_result d n o =
      record {
        kept_is = get_or-set_other kept c d r.kept nan n ∙ o.kept_is;
        cut_is = get_or-set_other cut c d r.cut false n ∙ o.cut_is;
      }

  pub recalled : Recalled regions costs allowed limit c known used' path' best' (set kept c r.kept) (set cut c r.cut) (set known c true)
  recalled =
      record {
        buffers = s.buffers;
        remembered =
            record {
              kept_long = length-set kept c r.kept ∙ m.kept_long;
              cut_long = length-set cut c r.cut ∙ m.cut_long;
              known_long = length-set known c true ∙ m.known_long;
              right = λ d l e. by_cases (eqb d c)
                  (λ t. subst (λ (x : ℕ). Result regions costs allowed limit x (set kept c r.kept) (set cut c r.cut)) (sym (eqb→eq d c t))
                  new_result)
                  (λ t. let n : d ≢ c = (λ q. clash (eqb d c) (eq→eqb d c q) t) in old_result d n (m.right d l (set_known d e n)));
            };
        now_known = get_or-set_same known c true false (subst (λ (n : ℕ). c < n) (sym m.known_long) h);
        still_known = λ d e. by_cases (eqb d c)
            (λ t. ap (λ (x : ℕ). get_or (set known c true) x false) (eqb→eq d c t)
            ∙ get_or-set_same known c true false (subst (λ (n : ℕ). c < n) (sym m.known_long) h))
            (λ t. get_or-set_other known c d true false (λ q. clash (eqb d c) (eq→eqb d c q) t) ∙ e);
      }

module _ {regions : List ℕ} {costs : List Float} {allowed : List Bool} {limit : ℕ} {used : List Bool} {path best : List ℕ} {kept : List Float}
    {cut known : List Bool} where
  pub known_more : {c : ℕ} {used' : List Bool} {path' best' : List ℕ} {kept' : List Float} {cut' known' : List Bool}
      → AllKnown regions costs allowed limit c used path best kept cut known
      → Recalled regions costs allowed limit c known used' path' best' kept' cut' known'
      → AllKnown regions costs allowed limit (c + 1) used' path' best' kept' cut' known'
  known_more {c} {known' = known'} a r =
      record {
        buffers = r.buffers;
        remembered = r.remembered;
        all_known = λ d l. by_cases (eqb d c)
            (λ t. ap (λ (x : ℕ). get_or known' x false) (eqb→eq d c t) ∙ r.now_known)
            (λ t. r.still_known d (a.all_known d (let n : d ≢ c = (λ q. clash (eqb d c) (eq→eqb d c q) t) in omega arith)));
      }

  pub known_fewer : {m m' : ℕ} → m' ≤ m → AllKnown regions costs allowed limit m used path best kept cut known
      → AllKnown regions costs allowed limit m' used path best kept cut known
  known_fewer h a = record { buffers = a.buffers; remembered = a.remembered; all_known = λ c l. a.all_known c (omega arith) }

  -- ---- the winner's move

  module _ {n : ℕ} {p : Choice} (few : n ≤ max_edges) (known_all : AllKnown regions costs allowed limit (n * 2) used path best kept cut known)
      (choice : ChosenOf kept cut n p) where
    chosen_move : found_by regions costs allowed limit p ≡ find_augmentation (the_graph regions) (cost_in costs) (allowed_in allowed) limit n
    chosen_move =
        ap (found_by regions costs allowed limit) choice.is
        ∙ chosen_found regions costs allowed limit kept cut n few (λ c l. known_all.remembered.right c (omega arith) (known_all.all_known c l))

    abbrev by_winner : Bool → Found
    by_winner b = record { cut = p.cut; kept = p.kept; best = cond b [] (search_of regions costs allowed limit p.winner).best }

    pub found_nothing : p.winner ≡ no_start
        → FoundIn regions costs allowed limit n used path best kept cut known (record { kept = p.kept; len = 0; cut = p.cut })
    unfolding found_by
    found_nothing w =
        record {
          answer = ap by_winner (sym (ap (λ (x : ℕ). eqb x no_start) w ∙ same→eqb no_start)) ∙ chosen_move;
          len_fits = omega arith;
          buffers = known_all.buffers;
          remembered = known_all.remembered;
        }

    pub found_winner : {used' : List Bool} {path' best' : List ℕ} {r : SearchState} → p.winner ≢ no_start
        → SearchedFrom regions costs allowed limit p.winner used' path' best' r
        → FoundIn regions costs allowed limit n used' path' best' kept cut known (record { kept = p.kept; len = r.len; cut = p.cut })
    unfolding found_by
    found_winner w s =
        record {
          answer = ap (λ (st : State). record { cut = p.cut; kept = p.kept; best = st.best }) s.answer
              ∙ ap by_winner (sym (ne→eqb p.winner no_start w))
              ∙ chosen_move;
          len_fits = s.len_fits;
          buffers = s.buffers;
          remembered = known_all.remembered;
        }

-- The search from one start: the entry to it, then no crossing, one or two, and both together against the definition's `run`.
-- At the start the path is one change. So no constraint holds another changed edge, and of the start's two constraints the one that is not
-- crossed is `home`: what `dfs` is to be lent is there, and it is there again after the first crossing, which leaves marks and path as they were.
-- Assumes nothing.
use mathlib.Core.Logic.{◌≢◌, inl, inr}
use mathlib.Core.Path.{◌≡◌, refl, sym, ap, subst, ◌∙◌}
use mathlib.Core.Bool.{Bool, true, false, not, ◌&&◌, cond}
use mathlib.Core.List.{List, [], ◌∷◌}
use Prim.Native.Nat.{ℕ, zero, suc, ◌+◌, ◌*◌, ◌/◌, ◌%◌, ◌≤◌, ◌<◌}
use native.Mathlib.Omega.{arith}
use native.Mathlib.Numerals.{add-one}
use lib.ListN.{length, get_or, take, set, replicate, length-set, length-replicate, get_or-replicate}
use lib.Seq.{get_or-set_other, get_or-set_same}
use lib.Dec.{eqb, leb, T, le→leb}
use lib.Arith.{lt→nleb}
use lib.Ieee.{Float, lt, nan, sub, binary64}
use Rattle.base.specs.Lists.{In, all, each, filter}
use Rattle.regions.specs.Region.{Constraint, constraint, holds, incidence}
use Rattle.counts.specs.Move.{Change}
use Rattle.counts.specs.Search.{Act, State, dfs, enter, enter_by, entered, eps, free, fresh, is_used, others_changed, run, skip, turned_back}
use Rattle.counts.specs.inner.Tables.{Other, Tables, all_decoded, allowed_in, cost_in, decoded, no_constraint, path_of, state_of, the_graph}
use Rattle.counts.specs.inner.Tables.{max_constraints, edge_slots, marks_size}
use Rattle.counts.specs.inner.SearchContract.{Crossed, CrossedAll, Entered, MayCrossAll, MayDfs, MayEnter, MayRun, OtherSlot, Searched}
use Rattle.counts.specs.inner.SearchContract.{crossing_of, dfs_of, entry_by, entry_of, fresh_state, no_marks, start_cost, visit_of}
use Rattle.counts.specs.declared.search.SearchState.{SearchState}
use Rattle.base.proofs.BoolLaws.{T_true, clash, false_T, not_T_false}
use Rattle.counts.proofs.search.Used.{free_set, free_replicate}
use Rattle.regions.proofs.region.Constraints.{holds→incidence, holds_numbered, incidence→holds}
use Rattle.counts.proofs.search.Laws.{dfs_enters, dfs_turned_back, record_high, record_kept}
use Rattle.counts.proofs.search.Slots.{cost_at, entry_holds, entry_most, in_none, one_change, one_constraint, other_differs, other_first}
use Rattle.counts.proofs.search.Slots.{other_held, other_in, other_most, other_real, other_same, other_second, same_entry, some_constraint}
use Rattle.counts.proofs.search.Slots.{two_constraints}
use Rattle.counts.proofs.search.Scan.{not_self}
use Rattle.counts.proofs.search.Endings.{entered_once, once_more}
use Rattle.counts.proofs.search.Alike.{dfs_like}

-- ---- the marks at the start

-- as a caller makes them
pub marks_made : set (replicate marks_size false) no_constraint true ≡ no_marks
unfolding no_marks
marks_made = refl

marks_long : length no_marks ≡ marks_size
unfolding no_marks
marks_long = length-set (replicate marks_size false) no_constraint true ∙ length-replicate marks_size false

marks_open : (i : ℕ) → i < no_constraint → is_used no_marks i ≡ false
unfolding no_marks
marks_open i h = get_or-set_other (replicate marks_size false) no_constraint i true true (λ q. omega (arith, h, q))
    ∙ get_or-replicate marks_size i false true (omega (arith, h))

marks_free : free no_marks ≡ max_constraints
unfolding no_marks
marks_free =
    let q = free_set (replicate marks_size false) no_constraint
    (false_T (is_used (replicate marks_size false) no_constraint) (get_or-replicate marks_size no_constraint false true (omega arith))) in
    let r = free_replicate marks_size in
    omega (arith, q, r)

filter_all : (p : ℕ → Bool) (l : List ℕ) → ((i : ℕ) → In i l → p i ≡ true) → filter p l ≡ l
filter_all p [] h = refl
filter_all p (x ∷ l) h = ap (λ (b : Bool). cond b (x ∷ filter p l) (filter p l)) (h x (inl refl))
    ∙ ap {B = List ℕ} (λ k. x ∷ k) (filter_all p l (λ i m. h i (inr m)))

-- ---- the entry

-- what the definition does, by the test of the limit
module _ (regions : List ℕ) (costs : List Float) (limit start : ℕ) (best : List ℕ) (st : SearchState) where
  abbrev by_limit : Bool → State
  by_limit b = cond b turned_back (λ (s : State). entry_by regions costs limit start (incidence (the_graph regions) (start / 2)) (entered s))
      (state_of st best)

  went_on : st.expansions < limit → (is : List ℕ) → incidence (the_graph regions) (start / 2) ≡ is
      → entry_by regions costs limit start is (entered (state_of st best)) ≡ entry_of regions costs limit start (state_of st best)
  went_on more is e =
      ap (λ (l : List ℕ). entry_by regions costs limit start l (entered (state_of st best))) (sym e)
      ∙ ap by_limit (sym (not_T_false (leb limit st.expansions) (λ u. clash (leb limit st.expansions) u (lt→nleb limit st.expansions more))))

-- past the limit
pub entered_back : {incident : List ℕ} {costs : List Float} {limit start : ℕ} {path best : List ℕ} {st : SearchState} → limit ≤ st.expansions
    → Entered incident costs limit start path best st (set path 0 start) best
    (record { kept = st.kept; expansions = st.expansions; len = st.len; cut = true })
entered_back {incident} {costs} {limit} {start} {path} {best} {st} h =
    record {
      path_is = refl;
      best_kept = refl;
      short = λ s. s;
      answer = answers;
    }
  where
    answers : {regions own : List ℕ} → Tables regions incident own
        → by_limit regions costs limit start best st true ≡ entry_of regions costs limit start (state_of st best)
    answers {regions} tables =
        ap (by_limit regions costs limit start best st) (sym (T_true (leb limit st.expansions) (le→leb limit st.expansions h)))

module _ {path best : List ℕ} {start : ℕ} (lent : MayEnter path best start) {incident : List ℕ} {costs : List Float} {limit : ℕ} {st : SearchState}
    (more : st.expansions < limit) where
  -- there is a constraint to cross
  pub entered_held : get_or incident (start / 2 * 2) 0 ≢ no_constraint
      → Entered incident costs limit start path best st (set path 0 start) best (once_more st)
  entered_held n = record {
    path_is = refl;
    best_kept = refl;
    short = λ s. s;
    answer = λ tables. entered_once st best ∙ go tables _ refl;
  }
    where
      go : {regions own : List ℕ} → Tables regions incident own → (is : List ℕ) → incidence (the_graph regions) (start / 2) ≡ is
          → entered (state_of st best) ≡ entry_of regions costs limit start (state_of st best)
      go {regions} {own} tables [] e = absurd (some_constraint regions incident own tables (start / 2) (omega (arith, lent.small)) n e)
      go {regions} {own} tables (i ∷ is) e = went_on regions costs limit start best st more (i ∷ is) e

  -- a free edge: the one change is complete
  module _ (is_free : get_or incident (start / 2 * 2) 0 ≡ no_constraint) {t : Float} (is_cost : t ≡ get_or costs start nan) where
    pub entered_high : lt t (sub binary64 st.kept eps) ≡ false
        → Entered incident costs limit start path best st (set path 0 start) best (once_more st)
    entered_high q =
        record {
          path_is = refl;
          best_kept = refl;
          short = λ s. s;
          answer = λ tables. entered_once st best ∙ answers tables;
        }
      where
        answers : {regions own : List ℕ} → Tables regions incident own
            → entered (state_of st best) ≡ entry_of regions costs limit start (state_of st best)
        answers {regions} {own} tables =
            let alone = in_none regions incident own tables (start / 2) (omega (arith, lent.small)) is_free in
            record_high (the_graph regions) no_marks (decoded start ∷ []) (start_cost regions costs limit start) (entered (state_of st best))
            (ap (λ (v : Float). lt v (sub binary64 st.kept eps)) (sym (cost_at costs start t is_cost)) ∙ q)
            ∙ went_on regions costs limit start best st more [] alone

    pub entered_free : {best' : List ℕ} → lt t (sub binary64 st.kept eps) ≡ true → take 1 best' ≡ take 1 (set path 0 start)
        → length best' ≡ length best
        → Entered incident costs limit start path best st (set path 0 start) best'
        (record { kept = t; expansions = st.expansions + 1; len = 1; cut = st.cut })
    entered_free {best'} q k lb =
        record {
          path_is = refl;
          best_kept = lb;
          short = λ _. omega arith;
          answer = answers;
        }
      where
        at : ℕ → Float → List Change → State
        at n v l = record { expansions = n; cut = st.cut; kept = v; best = l }

        answers : {regions own : List ℕ} → Tables regions incident own
            → at (st.expansions + 1) t (path_of 1 best') ≡ entry_of regions costs limit start (state_of st best)
        answers {regions} {own} tables =
            let alone = in_none regions incident own tables (start / 2) (omega (arith, lent.small)) is_free in
            let cost' : t ≡ start_cost regions costs limit start = cost_at costs start t is_cost in
            ap (λ (n : ℕ). at n t (path_of 1 best')) (add-one st.expansions)
            ∙ ap (λ (v : Float). at (suc st.expansions) v (path_of 1 best')) cost'
            ∙ ap (λ (l : List ℕ). at (suc st.expansions) (start_cost regions costs limit start) (all_decoded l))
            (k ∙ one_change (set path 0 start) (omega (arith, length-set path 0 start, lent.path_long))
            (get_or-set_same path 0 start 0 (omega (arith, lent.path_long))))
            ∙ record_kept (the_graph regions) no_marks (decoded start ∷ []) (start_cost regions costs limit start) (entered (state_of st best))
            (ap (λ (v : Float). lt v (sub binary64 st.kept eps)) (sym cost') ∙ q)
            (ap (λ (is : List ℕ). all (is_used no_marks) is && true) alone)
            ∙ went_on regions costs limit start best st more [] alone

-- ---- the crossings, and both

module _ (regions incident own : List ℕ) (costs : List Float) (allowed : List Bool) (limit start : ℕ) (tables : Tables regions incident own) where
  abbrev g : List Constraint
  g = the_graph regions

  abbrev edge : ℕ
  edge = start / 2

  abbrev sign : Bool
  sign = eqb (start % 2) 1

  abbrev cost : Float
  cost = cost_in costs edge sign

  abbrev outcome : State
  outcome = run g (cost_in costs) (allowed_in allowed) limit edge sign

  abbrev begun : State
  begun = entered (fresh g (cost_in costs) (allowed_in allowed) limit edge sign)

  -- the definition marks as many constraints as there are and is given as much fuel; the marks of the code and their fuel do as well
  by_marks : dfs g (cost_in costs) (allowed_in allowed) limit edge sign (suc (free no_marks)) no_marks (decoded start ∷ []) edge sign cost
      (fresh g (cost_in costs) (allowed_in allowed) limit edge sign) ≡ outcome
  unfolding run
  by_marks =
      sym (dfs_like g (cost_in costs) (allowed_in allowed) limit edge sign (suc (length g)) (suc (free no_marks)) (replicate (length g) false)
      no_marks (decoded start ∷ []) edge sign cost (fresh g (cost_in costs) (allowed_in allowed) limit edge sign)
      (λ i y t. get_or-replicate (length g) i false true (holds_numbered g i y t) ∙ sym (marks_open i (tables.numbered i y t)))
      (let q = free_replicate (length g) in omega (arith, q)) (omega arith))

  all_open : filter (λ (i : ℕ). not (is_used no_marks i)) (incidence g edge) ≡ incidence g edge
  all_open = filter_all (λ (i : ℕ). not (is_used no_marks i)) (incidence g edge)
      (λ i m. ap not (marks_open i (tables.numbered i edge (incidence→holds g i edge m))))

  abbrev visit_at : ℕ → Act
  visit_at i = visit_of regions costs allowed limit start (free no_marks) no_marks (decoded start ∷ []) start cost i

  abbrev enter_at : List ℕ → State
  enter_at is = enter_by g (cost_in costs) (allowed_in allowed) limit edge sign (dfs_of regions costs allowed limit start (free no_marks)) no_marks
      (decoded start ∷ []) edge sign cost is begun

  enters : 0 < limit → enter_at (incidence g edge) ≡ outcome
  unfolding enter
  enters h =
      ap enter_at (sym all_open)
      ∙ dfs_enters g (cost_in costs) (allowed_in allowed) limit edge sign (free no_marks) no_marks (decoded start ∷ []) edge sign cost
      (fresh g (cost_in costs) (allowed_in allowed) limit edge sign) h
      ∙ by_marks

  -- the crossings of a state, by the constraints of the start's edge
  abbrev crossing_by : List ℕ → Act
  crossing_by is st = cond st.cut skip (each visit_at is) st

  crosses : (st : SearchState) (best : List ℕ) → st.cut ≡ false → (is : List ℕ) → incidence g edge ≡ is
      → each visit_at is (state_of st best) ≡ crossing_of regions costs limit start allowed (state_of st best)
  crosses st best whole is e =
      ap (λ (b : Bool). cond b skip (each visit_at is) (state_of st best)) (sym whole) ∙ ap (λ (l : List ℕ). crossing_by l (state_of st best)) (sym e)

  -- ---- both, from the fresh state

  -- by the test of the limit, and by the constraints of the start's edge
  both : crossing_of regions costs limit start allowed (entry_of regions costs limit start (state_of fresh_state [])) ≡ outcome
  both = go limit refl
    where
      by_edge : (is : List ℕ) → enter_at is ≡ crossing_by is (entry_by regions costs limit start is begun)
      by_edge [] = sym (same (entry_by regions costs limit start [] begun).cut (entry_by regions costs limit start [] begun))
        where
          same : (b : Bool) (s : State) → cond b skip skip s ≡ s
          same true s = refl
          same false s = refl
      by_edge (i ∷ is) = refl

      go : (l : ℕ) → limit ≡ l → crossing_of regions costs limit start allowed (entry_of regions costs limit start (state_of fresh_state []))
          ≡ outcome
      go zero e =
          ap (λ (b : Bool). crossing_of regions costs limit start allowed (by_limit regions costs limit start [] fresh_state b))
          (T_true (leb limit 0) (le→leb limit 0 (omega (arith, e))))
          ∙ dfs_turned_back g (cost_in costs) (allowed_in allowed) limit edge sign (free no_marks) no_marks (decoded start ∷ []) edge sign cost
          (fresh g (cost_in costs) (allowed_in allowed) limit edge sign) (omega (arith, e))
          ∙ by_marks
      go (suc l) e =
          ap (crossing_of regions costs limit start allowed)
          (sym (went_on regions costs limit start [] fresh_state (omega (arith, e)) (incidence g edge) refl))
          ∙ sym (by_edge (incidence g edge)) ∙ enters (omega (arith, e))

-- both, from the fresh state
pub searched : {regions incident own : List ℕ} {costs : List Float} {allowed : List Bool} {limit start : ℕ} {used : List Bool}
    {path best path' best' : List ℕ} {st : SearchState} {used'' : List Bool}
    {path'' best'' : List ℕ} {r : SearchState} → MayRun regions incident own used path best start
    → Entered incident costs limit start path best fresh_state path' best' st
    → CrossedAll regions costs allowed limit start used path' best' st used'' path'' best'' r
    → Searched regions costs allowed limit start used'' path'' best'' r
searched {regions} {incident} {own} {costs} {allowed} {limit} {start} {used} {path} lent n c =
    record {
      used_kept = c.used_kept ∙ lent.unmarked;
      long_kept = c.long_kept ∙ ap length n.path_is ∙ length-set path 0 start ∙ lent.path_long;
      best_kept = c.best_kept ∙ n.best_kept ∙ lent.best_long;
      short = c.short (n.short (omega arith));
      answer = c.answer ∙ ap (crossing_of regions costs limit start allowed) (n.answer lent.tables)
          ∙ both regions incident own costs allowed limit start lent.tables;
    }

-- ---- the crossings, as the code makes them

-- nothing to cross: the start was turned back, or its edge is in no constraint
nothing_crossed : {regions : List ℕ} {costs : List Float} {allowed : List Bool} {limit start : ℕ} {used : List Bool} {path best : List ℕ}
    {st : SearchState} → state_of st best ≡ crossing_of regions costs limit start allowed (state_of st best)
    → CrossedAll regions costs allowed limit start used path best st used path best st
nothing_crossed e = record { used_kept = refl; path_kept = refl; long_kept = refl; best_kept = refl; short = λ h. h; answer = e }

pub crossed_cut : {regions : List ℕ} {costs : List Float} {allowed : List Bool} {limit start : ℕ} {used : List Bool} {path best : List ℕ}
    {st : SearchState} → st.cut ≡ true → CrossedAll regions costs allowed limit start used path best st used path best st
crossed_cut e = nothing_crossed (rw e)

module _ {regions incident own : List ℕ} {used : List Bool} {path best : List ℕ} {start : ℕ}
    (lent : MayCrossAll regions incident own used path best start) where
  pub crossed_none : {costs : List Float} {allowed : List Bool} {limit : ℕ} {st : SearchState}
      → st.cut ≡ false → get_or incident (start / 2 * 2) 0 ≡ no_constraint
      → CrossedAll regions costs allowed limit start used path best st used path best st
  crossed_none {costs} {allowed} {limit} {st} whole e =
      nothing_crossed (crosses regions incident own costs allowed limit start lent.tables st best whole []
      (in_none regions incident own lent.tables (start / 2) (omega (arith, lent.small)) e))

  -- slot p of the start's edge has a constraint to cross, and `home` is the other one
  may_start : {p home : ℕ} → p < edge_slots → p / 2 ≡ start / 2 → get_or incident p 0 < no_constraint
      → Other (the_graph regions) (start / 2) (get_or incident p 0) home
      → MayDfs regions incident own used path best 1 p home
  may_start {p} {home} small here real other =
      record {
        tables = lent.tables;
        best_long = lent.best_long;
        cross = record {
          one = omega arith;
          room = rw lent.unmarked (let f = marks_free in omega (arith, f));
          long = ap length lent.unmarked ∙ marks_long;
          path_long = lent.path_long;
          small = small;
          here = ap (λ (c : ℕ). c / 2) lent.at_start ∙ sym here;
          real = real;
          unused = open_yet (get_or incident p 0) real;
          away = λ i v nh. ap (λ (l : List ℕ). others_changed (constraint g i) (p / 2) (all_decoded l))
              (one_change path (omega (arith, lent.path_long)) lent.at_start)
              ∙ ap (λ (b : Bool). cond {A = List Change} b (decoded start ∷ []) [])
              (not_self (holds (constraint g i) (start / 2)) (p / 2) (start / 2) (sym here));
          mine = λ i v nh h. elim (other_in other
              (holds→incidence g i (start / 2) (subst (λ (y : ℕ). T (holds (constraint g i) y)) here h))) [
                | inl e ↦ e
                | inr e ↦ absurd (nh e)
              ];
          home_is = record {
            at_start = λ n. subst (λ (c : ℕ). T (holds (constraint g home) (c / 2))) (sym lent.at_start)
                (other_held other n);
            unmet = λ n. open_yet home (other_real other n);
            at_most = other_most other;
          };
          far = λ e. absurd (other_differs other real e);
        };
      }
    where
      g : List Constraint
      g = the_graph regions

      open_yet : (i : ℕ) → i < no_constraint → is_used used i ≡ false
      open_yet i h = ap (λ (u : List Bool). is_used u i) lent.unmarked ∙ marks_open i h

  -- what one crossing leaves
  crossed_start : {costs : List Float} {allowed : List Bool} {limit p : ℕ} {t : Float} {st : SearchState} {used' : List Bool} {path' best' : List ℕ}
      {r : SearchState} → t ≡ get_or costs start nan
      → Crossed regions incident costs allowed limit used path best 1 p t st used' path' best' r
      → state_of r best' ≡ visit_of regions costs allowed limit start (free no_marks) no_marks (decoded start ∷ []) start
      (start_cost regions costs limit start) (get_or incident p 0) (state_of st best)
  crossed_start {costs} {allowed} {limit} {p} {t} {st} q c =
      c.answer
      ∙ ap (λ (u : List Bool). at (get_or path 0 0) u (take 1 path) t) lent.unmarked ∙ ap (λ (k : ℕ). at k no_marks (take 1 path) t) lent.at_start
      ∙ ap (λ (l : List ℕ). at start no_marks l t) (one_change path (omega (arith, lent.path_long)) lent.at_start)
      ∙ ap (at start no_marks (start ∷ [])) (cost_at costs start t q)
    where
      at : ℕ → List Bool → List ℕ → Float → State
      at k u l v = visit_of regions costs allowed limit k (free u) u (all_decoded l) k v (get_or incident p 0) (state_of st best)

  -- and the same can be lent for another
  still_lent : {costs : List Float} {allowed : List Bool} {limit p : ℕ} {t : Float} {st : SearchState} {used' : List Bool} {path' best' : List ℕ}
      {r : SearchState}
      → Crossed regions incident costs allowed limit used path best 1 p t st used' path' best' r
      → MayCrossAll regions incident own used' path' best' start
  still_lent {costs} {allowed} {limit} {p} {t} {st} {used'} {path'} c =
      record {
        tables = lent.tables;
        small = lent.small;
        unmarked = c.used_kept ∙ lent.unmarked;
        path_long = c.long_kept ∙ lent.path_long;
        at_start = same_entry 1 path' path 0 c.path_kept (omega arith) ∙ lent.at_start;
        best_long = c.best_kept ∙ lent.best_long;
      }

-- `first` and `second` are the entries at the start's two slots, and the first is a constraint
module _ {regions incident own : List ℕ} {used : List Bool} {path best : List ℕ} {start : ℕ}
    (lent : MayCrossAll regions incident own used path best start) where
  module _ {first second : ℕ} (is_first : first ≡ get_or incident (start / 2 * 2) 0) (is_second : second ≡ get_or incident (start / 2 * 2 + 1) 0)
      (crossable : first ≢ no_constraint) where
    first_real : get_or incident (start / 2 * 2) 0 < no_constraint
    first_real = let m = entry_most regions incident own lent.tables (start / 2 * 2) (omega (arith, lent.small)) in omega
        (arith, m, is_first, crossable)

    -- the other constraint of the one at the first slot
    second_other : Other (the_graph regions) (start / 2) (get_or incident (start / 2 * 2) 0) (get_or incident (start / 2 * 2 + 1) 0)
    second_other =
        let q : start / 2 * 2 / 2 ≡ start / 2 = omega arith in
        let held = entry_holds regions incident own lent.tables (start / 2 * 2) (omega (arith, lent.small)) first_real in
        let o : OtherSlot incident (start / 2) (get_or incident (start / 2 * 2) 0) (start / 2 * 2 + 1) =
        other_second (omega (arith, lent.small)) refl in
        o.other_is lent.tables (rw q at held)

    -- the first crossing, with the second constraint as `home`
    pub first_crossing : MayDfs regions incident own used path best 1 (start / 2 * 2) second
    first_crossing = may_start lent (omega (arith, lent.small)) (omega arith) first_real (other_same is_second second_other)

    second_real : second ≢ no_constraint → get_or incident (start / 2 * 2 + 1) 0 < no_constraint
    second_real n = let m = entry_most regions incident own lent.tables (start / 2 * 2 + 1) (omega (arith, lent.small)) in omega
        (arith, m, is_second, n)

    -- what both leave, or the first alone
    module _ {costs : List Float} {allowed : List Bool} {limit : ℕ} {t : Float} {st : SearchState} {used' : List Bool} {path' best' : List ℕ}
        {r : SearchState}
        (c : Crossed regions incident costs allowed limit used path best 1 (start / 2 * 2) t st used' path' best' r) where
      -- the second one, with the first constraint as `home`
      pub second_crossing : second ≢ no_constraint → MayDfs regions incident own used' path' best' 1 (start / 2 * 2 + 1) first
      second_crossing n =
          let q : (start / 2 * 2 + 1) / 2 ≡ start / 2 = omega arith in
          let held = entry_holds regions incident own lent.tables (start / 2 * 2 + 1) (omega (arith, lent.small)) (second_real n) in
          let differ = other_differs second_other first_real in
          let o : OtherSlot incident (start / 2) (get_or incident (start / 2 * 2 + 1) 0) (start / 2 * 2) =
          other_first (omega (arith, lent.small)) differ in
          may_start (still_lent lent c) (omega (arith, lent.small)) q (second_real n)
          (other_same is_first (o.other_is lent.tables (rw q at held)))

      module _ (is_cost : t ≡ get_or costs start nan) (whole : st.cut ≡ false) where
        pub crossed_one : second ≡ no_constraint → CrossedAll regions costs allowed limit start used path best st used' path' best' r
        crossed_one e =
            record {
              used_kept = c.used_kept;
              path_kept = c.path_kept;
              long_kept = c.long_kept;
              best_kept = c.best_kept;
              short = c.short;
              answer = crossed_start lent is_cost c
                  ∙ crosses regions incident own costs allowed limit start lent.tables st best whole (get_or incident (start / 2 * 2) 0 ∷ [])
                  (one_constraint regions incident own lent.tables (start / 2) (omega (arith, lent.small)) first_real (sym is_second ∙ e));
            }

        pub crossed_two : {used'' : List Bool} {path'' best'' : List ℕ} {r' : SearchState} → second ≢ no_constraint
            → Crossed regions incident costs allowed limit used' path' best' 1 (start / 2 * 2 + 1) t r used'' path'' best'' r'
            → CrossedAll regions costs allowed limit start used path best st used'' path'' best'' r'
        crossed_two n d =
            record {
              used_kept = d.used_kept ∙ c.used_kept;
              path_kept = d.path_kept ∙ c.path_kept;
              long_kept = d.long_kept ∙ c.long_kept;
              best_kept = d.best_kept ∙ c.best_kept;
              short = λ h. d.short (c.short h);
              answer = crossed_start (still_lent lent c) is_cost d
                  ∙ ap (visit_at regions incident own costs allowed limit start lent.tables (get_or incident (start / 2 * 2 + 1) 0))
                  (crossed_start lent is_cost c)
                  ∙ crosses regions incident own costs allowed limit start lent.tables st best whole
                  (get_or incident (start / 2 * 2) 0 ∷ get_or incident (start / 2 * 2 + 1) 0 ∷ [])
                  (two_constraints regions incident own lent.tables (start / 2) (omega (arith, lent.small)) (second_real n));
            }

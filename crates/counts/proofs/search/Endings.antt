-- Where a reading ends: the end of a chain, and the closing of a loop.
-- The code does not test whether a path is complete. At a chain's end every constraint of the last edge is used, and by `away` no other one but
-- `home` holds a changed edge: the path is complete just if there is no `home`. In a loop the last edge meets `home` itself: once that is marked,
-- by `away` and `mine` no unused constraint holds a changed edge. `end_chain` and `close_loop` are not lent the marks, so what each leaves is shown
-- first for given tables and marks, as a step or a crossing, and then said for all of them (`Ended`, `Closed`). Assumes nothing.
use mathlib.Core.Logic.{◌≢◌}
use mathlib.Core.Path.{◌≡◌, refl, sym, ap, subst, ◌∙◌}
use mathlib.Core.Bool.{Bool, true, false, not, ◌&&◌, cond, beq}
use mathlib.Core.List.{List, [], ◌∷◌, ◌++◌}
use Prim.Native.Nat.{ℕ, zero, suc, ◌+◌, ◌-◌, ◌/◌, ◌%◌, ◌≤◌, ◌<◌}
use native.Mathlib.Omega.{arith}
use native.Mathlib.Numerals.{add-one}
use lib.ListN.{length, get_or, take, set, length-set}
use lib.Seq.{take-set-le}
use lib.Dec.{eqb, ltb, T, eqb→eq, eqb_refl}
use lib.Ieee.{Float, nan, lt, sub, add, binary64}
use Rattle.base.specs.Lists.{all, member, differs}
use Rattle.regions.specs.Region.{Constraint, constraint, holds, incidence, across}
use Rattle.counts.specs.Move.{Change, balances, select}
use Rattle.counts.specs.Search.{Act, State, entered, eps, free, is_used, others_changed, path_is_complete, record_path, skip, visit, visit_by}
use Rattle.counts.specs.inner.Tables.{Other, Tables, after, all_decoded, allowed_in, alone, before, cost_in, decoded, edges_on, path_of}
use Rattle.counts.specs.inner.Tables.{state_of, the_graph, changes, edge_slots, no_constraint}
use Rattle.counts.specs.inner.SearchContract.{BalancesThere, Closed, Crossed, Ended, MayCloseLoop, MayCross, MayDfs, MayStep, SlotOf, Stepped}
use Rattle.counts.specs.inner.SearchContract.{changed_among, changed_by, dfs_of, try_partner_of, visit_of}
use Rattle.counts.specs.declared.search.SearchState.{SearchState}
use Rattle.counts.specs.declared.search.Changed.{Changed}
use Rattle.counts.specs.declared.search.Changed.TheVariants.{One}
use Rattle.base.proofs.BoolLaws.{T_true, clash, false_T, ne→eqb, not_T_false}
use Rattle.base.proofs.ListLaws.{every_in, in_left, nothing_in}
use Rattle.regions.proofs.region.Constraints.{holds→incidence, incidence→holds}
use Rattle.counts.proofs.MoveLaws.{select_in}
use Rattle.counts.proofs.search.Used.{set_used, still_used}
use Rattle.counts.proofs.search.Laws.{all_used, barred_alone, chain_complete, dfs_enters, dfs_turned_back, enter_none, none_held, record_high}
use Rattle.counts.proofs.search.Laws.{record_incomplete, record_kept, unused_alone}
use Rattle.counts.proofs.search.Slots.{cost_at, path_longer, start_in}
use Rattle.counts.proofs.search.Steps.{nothing_written, step_taken}
use Rattle.counts.proofs.search.TwoSides.{scanned_there}
use Rattle.counts.proofs.search.Scan.{found_one}

-- ---- the end of a chain

-- a path whose start has an open constraint is not complete
incomplete : (g : List Constraint) (used : List Bool) (l : List ℕ) (n home : ℕ) (z : List Change) → 1 ≤ n → 1 ≤ length l
    → T (holds (constraint g home) (get_or l 0 0 / 2)) → is_used used home ≡ false → path_is_complete g used (path_of n l ++ z) ≡ false
incomplete g used l n home z h h' t v =
    not_T_false (path_is_complete g used (path_of n l ++ z)) (λ u. clash (is_used used home)
    (every_in (is_used used) (incidence g (get_or l 0 0 / 2))
    (every_in (λ (w : Change). all (is_used used) (incidence g w.0)) (path_of n l ++ z) u (decoded (get_or l 0 0))
    (in_left (decoded (get_or l 0 0)) (path_of n l) z (start_in l n h h'))) home (holds→incidence g home (get_or l 0 0 / 2) t)) (false_T (is_used used
    home) v))

only : {g : List Constraint} {y i : ℕ} → Other g y i no_constraint → incidence g y ≡ i ∷ []
only (alone q r) = r
only (after q r s) = absurd (omega (arith, q))
only (before q r s) = absurd (omega (arith, q))

-- one entry more
abbrev pub once_more : SearchState → SearchState
once_more st = record { kept = st.kept; expansions = st.expansions + 1; len = st.len; cut = st.cut }

pub entered_once : (st : SearchState) (best : List ℕ) → state_of (once_more st) best ≡ entered (state_of st best)
entered_once st best = ap (λ (k : ℕ). record { expansions = k; cut = st.cut; kept = st.kept; best = path_of st.len best })
    (add-one st.expansions)

-- what the definition does at the end: it enters the edge, and keeps the path if that is complete and costs less
module _ (regions : List ℕ) (costs : List Float) (allowed : List Bool) (limit : ℕ) (used : List Bool) (path best : List ℕ) (n e i d : ℕ) (t : Float)
    (st : SearchState) where
  abbrev c0 : ℕ
  c0 = get_or path 0 0

  abbrev longer : List Change
  longer = path_of n path ++ decoded d ∷ []

  abbrev cost : Float
  cost = add binary64 t (cost_in costs (d / 2) (eqb (d % 2) 1))

  abbrev tried : State
  tried = try_partner_of regions costs allowed limit c0 (suc (free used)) used (path_of n path) e t i (decoded d) (state_of st best)

  module _ {home : ℕ} (s : MayStep (the_graph regions) used path n e i d home) (ne : d / 2 ≢ e) (h : get_or allowed d false ≡ true)
      (w : Other (the_graph regions) (d / 2) i no_constraint) where
    goes_in : dfs_of regions costs allowed limit c0 (suc (free used)) used longer (d / 2) (eqb (d % 2) 1) cost (state_of st best) ≡ tried
    goes_in = step_taken regions costs allowed limit used path best n e i d t st s ne h (barred_alone (the_graph regions) used (d / 2) i (only w))

    enters_end : st.expansions < limit → record_path (the_graph regions) used longer cost (entered (state_of st best)) ≡ tried
    enters_end l =
        enter_none (the_graph regions) (cost_in costs) (allowed_in allowed) limit (c0 / 2) (eqb (c0 % 2) 1)
        (dfs_of regions costs allowed limit c0 (free used)) used longer
        (d / 2) (eqb (d % 2) 1) cost (state_of st best) (unused_alone (the_graph regions) used (d / 2) i (only w) s.taken)
        ∙ dfs_enters (the_graph regions) (cost_in costs) (allowed_in allowed) limit (c0 / 2) (eqb (c0 % 2) 1) (free used) used longer (d / 2)
        (eqb (d % 2) 1)
        cost (state_of st best) l
        ∙ goes_in

-- what comes of it; p is the cost of the change
module _ {regions : List ℕ} {costs : List Float} {allowed : List Bool} {limit : ℕ} {used : List Bool} {path best : List ℕ} {n e i d home : ℕ}
    {t : Float} {st : SearchState}
    (s : MayStep (the_graph regions) used path n e i d home) (ne : d / 2 ≢ e) (h : get_or allowed d false ≡ true)
    (w : Other (the_graph regions) (d / 2) i no_constraint) where
  -- the entry is past the limit
  steps_back : limit ≤ st.expansions
      → Stepped regions costs allowed limit used path best n e i d t st used path best
      (record { kept = st.kept; expansions = st.expansions; len = st.len; cut = true })
  steps_back l =
      nothing_written _ refl (dfs_turned_back (the_graph regions) (cost_in costs) (allowed_in allowed) limit (get_or path 0 0 / 2)
      (eqb (get_or path 0 0 % 2) 1) (free used) used
      (path_of n path ++ decoded d ∷ []) (d / 2) (eqb (d % 2) 1) (add binary64 t (cost_in costs (d / 2) (eqb (d % 2) 1))) (state_of st best) l
      ∙ goes_in regions costs allowed limit used path best n e i d t st s ne h w)

  module _ (more : st.expansions < limit) where
    -- the start is still open
    steps_open : home ≢ no_constraint → Stepped regions costs allowed limit used path best n e i d t st used path best (once_more st)
    steps_open nh =
        nothing_written _ refl (entered_once st best
        ∙ record_incomplete (the_graph regions) used (path_of n path ++ decoded d ∷ []) (add binary64 t (cost_in costs (d / 2) (eqb (d % 2) 1)))
        (entered (state_of st best))
        (incomplete (the_graph regions) used path n home (decoded d ∷ []) s.one (omega (arith, s.path_long)) (s.home_is.at_start nh)
        (s.home_is.unmet nh))
        ∙ enters_end regions costs allowed limit used path best n e i d t st s ne h w more)

    module _ {p : Float} (is_cost : p ≡ get_or costs d nan) where
      -- the path costs no less than the kept one
      steps_high : lt (add binary64 t p) (sub binary64 st.kept eps) ≡ false
          → Stepped regions costs allowed limit used path best n e i d t st used path best (once_more st)
      steps_high b =
          nothing_written _ refl (entered_once st best
          ∙ record_high (the_graph regions) used (path_of n path ++ decoded d ∷ []) (add binary64 t (cost_in costs (d / 2) (eqb (d % 2) 1)))
          (entered (state_of st best))
          (ap (λ (v : Float). lt (add binary64 t v) (sub binary64 st.kept eps)) (sym (cost_at costs d p is_cost)) ∙ b)
          ∙ enters_end regions costs allowed limit used path best n e i d t st s ne h w more)

      -- it is kept
      steps_kept : {incident own best' : List ℕ} → Tables regions incident own → home ≡ no_constraint
          → lt (add binary64 t p) (sub binary64 st.kept eps) ≡ true
          → take (n + 1) best' ≡ take (n + 1) (set path n d) → length best' ≡ length best
          → Stepped regions costs allowed limit used path best n e i d t st used (set path n d) best'
          (record { kept = add binary64 t p; expansions = st.expansions + 1; len = n + 1; cut = st.cut })
      steps_kept {incident} {own} {best'} tables hm b tk lb =
          record {
            used_kept = refl;
            path_kept = take-set-le n path n d (omega arith);
            long_kept = length-set path n d;
            best_kept = lb;
            short = λ _. omega (arith, s.room);
            answer = ap (λ (k : ℕ). at k (add binary64 t p) (path_of (n + 1) best')) (add-one st.expansions)
                ∙ ap (λ (v : Float). at (suc st.expansions) (add binary64 t v) (path_of (n + 1) best')) (cost_at costs d p is_cost)
                ∙ ap (at (suc st.expansions) cost') (ap all_decoded tk ∙ path_longer path n d (omega (arith, s.path_long, s.room)))
                ∙ record_kept (the_graph regions) used (path_of n path ++ decoded d ∷ []) cost' (entered (state_of st best))
                (ap (λ (v : Float). lt (add binary64 t v) (sub binary64 st.kept eps)) (sym (cost_at costs d p is_cost)) ∙ b)
                (chain_complete (the_graph regions) used (path_of n path) (decoded d) i (λ j v nj. s.away j v (λ r. nj (r ∙ hm))) tables.numbered
                (only w) s.taken)
                ∙ enters_end regions costs allowed limit used path best n e i d t st s ne h w more;
          }
        where
          cost' : Float
          cost' = add binary64 t (cost_in costs (d / 2) (eqb (d % 2) 1))

          at : ℕ → Float → List Change → State
          at k v l = record { expansions = k; cut = st.cut; kept = v; best = l }

-- what `end_chain` leaves
module _ {costs : List Float} {limit : ℕ} {path best : List ℕ} {n d : ℕ} {t : Float} {home : ℕ} {st : SearchState} where
  pub end_turned_back : limit ≤ st.expansions
      → Ended costs limit path best n d t home st path best (record { kept = st.kept; expansions = st.expansions; len = st.len; cut = true })
  end_turned_back l = record { steps = λ tables s ne h w. steps_back s ne h w l }

  module _ (more : st.expansions < limit) where
    pub end_open : home ≢ no_constraint → Ended costs limit path best n d t home st path best (once_more st)
    end_open nh = record { steps = λ tables s ne h w. steps_open s ne h w more nh }

    pub end_high : {p : Float} → p ≡ get_or costs d nan → lt (add binary64 t p) (sub binary64 st.kept eps) ≡ false
        → Ended costs limit path best n d t home st path best (once_more st)
    end_high q b = record { steps = λ tables s ne h w. steps_high s ne h w more q b }

    pub end_kept : {p : Float} {best' : List ℕ} → p ≡ get_or costs d nan → home ≡ no_constraint
        → lt (add binary64 t p) (sub binary64 st.kept eps) ≡ true
        → take (n + 1) best' ≡ take (n + 1) (set path n d) → length best' ≡ length best
        → Ended costs limit path best n d t home st (set path n d) best'
        (record { kept = add binary64 t p; expansions = st.expansions + 1; len = n + 1; cut = st.cut })
    end_kept q hm b tk lb = record { steps = λ tables s ne h w. steps_kept s ne h w more q tables hm b tk lb }

-- ---- the start's change and the last one balance

-- Like signs on opposite sides, unlike ones on one side; a and b say on which sides the two stand, at slots q and p of `home`.
pub balanced_by : {incident own : List ℕ} {p q c c0 home : ℕ} {a b r : Bool} → p < edge_slots → SlotOf incident (c0 / 2) home q
    → a ≡ ltb (get_or own q 0 % 4) 2 → b ≡ ltb (get_or own p 0 % 4) 2 → r ≡ beq (beq a b) (not (beq (eqb (c0 % 2) 1) (eqb (c % 2) 1)))
    → BalancesThere incident own p c c0 home r
balanced_by {incident} {own} {p} {q} {c} {c0} {home} {a} {b} small at ea eb er =
    record {
      balance_is = λ tables py ph real held.
          er ∙ ap (λ (k : Bool). beq (beq k b) unlike) ea ∙ ap (λ (k : Bool). beq (beq (ltb (get_or own q 0 % 4) 2) k) unlike) eb
          ∙ both (side_of tables q at.below (at.entry_is tables held) real at.of_edge) (side_of tables p small ph real py);
    }
  where
    unlike : Bool
    unlike = not (beq (eqb (c0 % 2) 1) (eqb (c % 2) 1))

    both : {k k' l l' : Bool} → k ≡ l → k' ≡ l' → beq (beq k k') unlike ≡ beq (beq l l') unlike
    both e e' = rw (e, e')

    side_of : {regions : List ℕ} → Tables regions incident own → (k : ℕ) → k < edge_slots → get_or incident k 0 ≡ home → home < no_constraint → {x : ℕ}
        → k / 2 ≡ x
        → ltb (get_or own k 0 % 4) 2 ≡ member x (constraint (the_graph regions) home).a
    side_of {regions} tables k low e real {x} kx =
        sym (tables.stands k low (omega (arith, e, real))).first
        ∙ ap (λ (y : ℕ). member y (constraint (the_graph regions) (get_or incident k 0)).a) kx
        ∙ ap (λ (i : ℕ). member x (constraint (the_graph regions) i).a) e

same_sign : (c d : ℕ) → eqb (c % 2) (d % 2) ≡ beq (eqb (c % 2) 1) (eqb (d % 2) 1)
same_sign c d = go (c % 2) (d % 2) (let q : c % 2 < 2 = omega arith in q) (let q : d % 2 < 2 = omega arith in q)
  where
    go : (a b : ℕ) → a < 2 → b < 2 → eqb a b ≡ beq (eqb a 1) (eqb b 1)
    go zero zero h h' = refl
    go zero (suc zero) h h' = refl
    go zero (suc (suc b)) h h' = absurd (omega (arith, h'))
    go (suc zero) zero h h' = refl
    go (suc zero) (suc zero) h h' = refl
    go (suc zero) (suc (suc b)) h h' = absurd (omega (arith, h'))
    go (suc (suc a)) b h h' = absurd (omega (arith, h))

pub like_signs : (c d : ℕ) (b : Bool) → b ≡ false → eqb (c % 2) (d % 2) ≡ beq b (not (beq (eqb (c % 2) 1) (eqb (d % 2) 1)))
like_signs c d b e = same_sign c d ∙ go (beq (eqb (c % 2) 1) (eqb (d % 2) 1))
    ∙ ap (λ (k : Bool). beq k (not (beq (eqb (c % 2) 1) (eqb (d % 2) 1)))) (sym e)
  where
    go : (b : Bool) → b ≡ beq false (not b)
    go true = refl
    go false = refl

pub unlike_signs : (c d : ℕ) (b : Bool) → b ≡ true → not (eqb (c % 2) (d % 2)) ≡ beq b (not (beq (eqb (c % 2) 1) (eqb (d % 2) 1)))
unlike_signs c d b e = ap not (same_sign c d) ∙ go (beq (eqb (c % 2) 1) (eqb (d % 2) 1))
    ∙ ap (λ (k : Bool). beq k (not (beq (eqb (c % 2) 1) (eqb (d % 2) 1)))) (sym e)
  where
    go : (b : Bool) → not b ≡ beq true (not b)
    go true = refl
    go false = refl

-- ---- the closing of a loop

-- what `dfs` lends to `close_loop`
pub may_close : {regions incident own : List ℕ} {used : List Bool} {path best : List ℕ} {n p home : ℕ}
    → MayDfs regions incident own used path best n p home
    → get_or incident p 0 ≡ home → MayCloseLoop regions incident own path best n p home
may_close lent e =
    let rd = lent.cross in
    record {
      tables = lent.tables;
      one = rd.one;
      fits = omega (arith, rd.room);
      path_long = rd.path_long;
      best_long = lent.best_long;
      small = rd.small;
      real = rd.real;
      here = rd.here;
      at_home = e;
      start_there = rd.home_is.at_start (λ h. omega (arith, rd.real, e, h));
    }

-- what the definition does in `home`, by the other changed edges there
module _ (regions incident own : List ℕ) (costs : List Float) (allowed : List Bool) (limit : ℕ) (used : List Bool) (path best : List ℕ) (n p home : ℕ)
    (t : Float) (st : SearchState)
    (lent : MayCloseLoop regions incident own path best n p home) (rd : MayCross (the_graph regions) incident used path n p home) where
  abbrev g : List Constraint
  g = the_graph regions

  abbrev s0 : ℕ
  s0 = get_or path 0 0

  abbrev last : ℕ
  last = get_or path (n - 1) 0

  abbrev rest : List Change
  rest = others_changed (constraint g home) (p / 2) (path_of n path)

  -- the start is among them
  start_there : rest ≡ [] → ⊥
  start_there q =
      nothing_in (decoded s0) rest (select_in (λ (k : ℕ). differs (p / 2) k && holds (constraint g home) k) (decoded s0) (path_of n path)
      (start_in path n rd.one (omega (arith, rd.path_long))) (lib.Ieee.Fits.and_i (differs (p / 2) (s0 / 2)) (holds (constraint g home) (s0 / 2))
      (lib.Dec.not_T (eqb (s0 / 2) (p / 2)) (λ u. rd.far lent.at_home (eqb→eq (s0 / 2) (p / 2) u))) lent.start_there)) q

  abbrev keeps : Act
  keeps = record_path g (set used home true) (path_of n path) t

  abbrev visited : State
  visited = visit_of regions costs allowed limit s0 (free used) used (path_of n path) last t (get_or incident p 0) (state_of st best)

  abbrev ways : List Change → State
  ways os =
      visit_by g (cost_in costs) (allowed_in allowed) limit (s0 / 2) (eqb (s0 % 2) 1) (dfs_of regions costs allowed limit s0 (free used)) used
      (path_of n path)
      (p / 2) (eqb (last % 2) 1) t home os (state_of st best)

  is_visit : ways rest ≡ visited
  unfolding visit
  is_visit = ap (λ (y : ℕ). by y home) (sym rd.here) ∙ ap (by (last / 2)) (sym lent.at_home)
    where
      by : ℕ → ℕ → State
      by y i =
          visit_by g (cost_in costs) (allowed_in allowed) limit (s0 / 2) (eqb (s0 % 2) 1) (dfs_of regions costs allowed limit s0 (free used)) used
          (path_of n path)
          y (eqb (last % 2) 1) t i (others_changed (constraint g i) y (path_of n path)) (state_of st best)

  abbrev fits_in : Bool
  fits_in = balances (constraint g home) (decoded s0) (p / 2, eqb (last % 2) 1)

  fits_is : {b : Bool} → balances (constraint g home) (decoded s0) (decoded last) ≡ b → fits_in ≡ b
  fits_is v = ap (λ (y : ℕ). balances (constraint g home) (decoded s0) (y, eqb (last % 2) 1)) (sym rd.here) ∙ v

  -- the two do not balance
  unbalanced : balances (constraint g home) (decoded s0) (decoded last) ≡ false → state_of st best ≡ visited
  unbalanced v = go rest start_there ∙ is_visit
    where
      no : (b : Bool) (f : Act) → state_of st best ≡ cond (b && false) f skip (state_of st best)
      no true f = refl
      no false f = refl

      go : (os : List Change) → (os ≡ [] → ⊥) → state_of st best ≡ ways os
      go [] h = absurd (h refl)
      go (w ∷ []) h = no (eqb w.0 (s0 / 2)) keeps
          ∙ ap (λ (b : Bool). cond (eqb w.0 (s0 / 2) && b) keeps skip (state_of st best)) (sym (fits_is v))
      go (w ∷ u ∷ r) h = refl

  -- the cost is not below the kept one
  too_high : lt t (sub binary64 st.kept eps) ≡ false → state_of st best ≡ visited
  too_high v = go rest start_there ∙ is_visit
    where
      no : (b : Bool) → state_of st best ≡ cond b keeps skip (state_of st best)
      no true = record_high g (set used home true) (path_of n path) t (state_of st best) v
      no false = refl

      go : (os : List Change) → (os ≡ [] → ⊥) → state_of st best ≡ ways os
      go [] h = absurd (h refl)
      go (w ∷ []) h = no (eqb w.0 (s0 / 2) && fits_in)
      go (w ∷ u ∷ r) h = refl

  -- the start is not the only other changed edge there
  not_alone : changed_by rest ≢ One (s0 / 2) → state_of st best ≡ visited
  not_alone v = go rest start_there v ∙ is_visit
    where
      go : (os : List Change) → (os ≡ [] → ⊥) → changed_by os ≢ One (s0 / 2) → state_of st best ≡ ways os
      go [] h m = absurd (h refl)
      go (w ∷ []) h m = ap (λ (b : Bool). cond (b && fits_in) keeps skip (state_of st best)) (sym (ne→eqb w.0 (s0 / 2) (λ q. m (ap One q))))
      go (w ∷ u ∷ r) h m = refl

  -- the loop is kept
  loop_kept : balances (constraint g home) (decoded s0) (decoded last) ≡ true → lt t (sub binary64 st.kept eps) ≡ true
      → changed_by rest ≡ One (s0 / 2)
      → record { expansions = st.expansions; cut = st.cut; kept = t; best = path_of n path } ≡ visited
  loop_kept v l m = subst (λ (os : List Change). at ≡ ways os) (sym alone_there.1) (go alone_there.0 alone_there.2) ∙ is_visit
    where
      at : State
      at = record { expansions = st.expansions; cut = st.cut; kept = t; best = path_of n path }

      alone_there : (w : Change) × (rest ≡ w ∷ []) × (w.0 ≡ s0 / 2)
      alone_there = found_one rest (s0 / 2) m

      whole : path_is_complete g (set used home true) (path_of n path) ≡ true
      whole = all_used g (set used home true) (path_of n path) (λ w j i k u.
          let still = false_T (is_used (set used home true) j) u in
          let nj : j ≢ home = λ q. clash (is_used (set used home true) j)
          (subst (λ (x : ℕ). T (is_used (set used home true) x)) (sym q) (set_used used home)) still in
          let was : is_used used j ≡ false = not_T_false (is_used used j)
          (λ x. clash (is_used (set used home true) j) (still_used used home j x) still) in
          nothing_in w (select (holds (constraint g j)) (path_of n path))
          (select_in (holds (constraint g j)) w (path_of n path) i (incidence→holds g j w.0 k))
          (none_held (constraint g j) (p / 2) (path_of n path) (rd.away j was nj) (λ y. nj (rd.mine j was nj y ∙ lent.at_home))))

      go : (w : Change) → w.0 ≡ s0 / 2 → at ≡ ways (w ∷ [])
      go w q =
          record_kept g (set used home true) (path_of n path) t (state_of st best) l whole
          ∙ ap (λ (b : Bool). cond b keeps skip (state_of st best)) (sym (ap (λ (b : Bool). b && fits_in)
          (T_true (eqb w.0 (s0 / 2)) (subst (λ (k : ℕ). T (eqb w.0 k)) q (eqb_refl w.0))) ∙ fits_is v))

-- what comes of it
module _ {regions incident own : List ℕ} {costs : List Float} {allowed : List Bool} {limit : ℕ} {used : List Bool} {path best : List ℕ} {n p home : ℕ}
    {t : Float} {st : SearchState}
    (lent : MayCloseLoop regions incident own path best n p home) (rd : MayCross (the_graph regions) incident used path n p home) where
  nothing_kept : state_of st best ≡ visit_of regions costs allowed limit (get_or path 0 0) (free used) used (path_of n path) (get_or path (n - 1) 0) t
      (get_or incident p 0) (state_of st best)
      → Crossed regions incident costs allowed limit used path best n p t st used path best st
  nothing_kept e = record { used_kept = refl; path_kept = refl; long_kept = refl; best_kept = refl; short = λ h. h; answer = e }

  crosses_unbalanced : balances (constraint (the_graph regions) home) (decoded (get_or path 0 0)) (decoded (get_or path (n - 1) 0)) ≡ false
      → Crossed regions incident costs allowed limit used path best n p t st used path best st
  crosses_unbalanced v = nothing_kept (unbalanced regions incident own costs allowed limit used path best n p home t st lent rd v)

  crosses_high : lt t (sub binary64 st.kept eps) ≡ false → Crossed regions incident costs allowed limit used path best n p t st used path best st
  crosses_high v = nothing_kept (too_high regions incident own costs allowed limit used path best n p home t st lent rd v)

  crosses_others : changed_by (others_changed (constraint (the_graph regions) home) (p / 2) (path_of n path)) ≢ One (get_or path 0 0 / 2)
      → Crossed regions incident costs allowed limit used path best n p t st used path best st
  crosses_others v = nothing_kept (not_alone regions incident own costs allowed limit used path best n p home t st lent rd v)

  crosses_kept : {best' : List ℕ} → balances (constraint (the_graph regions) home) (decoded (get_or path 0 0)) (decoded (get_or path (n - 1) 0)) ≡ true
      → lt t (sub binary64 st.kept eps) ≡ true → changed_by (others_changed (constraint (the_graph regions) home) (p / 2) (path_of n path)) ≡ One
      (get_or path 0 0 / 2)
      → take n best' ≡ take n path → length best' ≡ length best
      → Crossed regions incident costs allowed limit used path best n p t st used path best'
      (record { kept = t; expansions = st.expansions; len = n; cut = st.cut })
  crosses_kept v l m tk lb =
      record {
        used_kept = refl;
        path_kept = refl;
        long_kept = refl;
        best_kept = lb;
        short = λ _. lent.fits;
        answer = ap (λ (k : List ℕ). record { expansions = st.expansions; cut = st.cut; kept = t; best = all_decoded k }) tk
            ∙ loop_kept regions incident own costs allowed limit used path best n p home t st lent rd v l m;
      }

-- the same facts as the code has them; s and l are the changes that it reads
module _ {regions incident own path best : List ℕ} {n p home : ℕ} (lent : MayCloseLoop regions incident own path best n p home) where
  -- the start is a change
  pub start_small : {s : ℕ} → s ≡ get_or path 0 0 → s < changes
  start_small e = omega (arith, e, lent.tables.few home (get_or path 0 0 / 2) lent.start_there)

  abbrev scanned : Changed
  scanned = changed_by (changed_among (edges_on regions (across (get_or own p 0)) ++ edges_on regions (get_or own p 0)) (p / 2) (path_of n path))

  told_there : {f : Changed} → f ≡ scanned → changed_by (others_changed (constraint (the_graph regions) home) (p / 2) (path_of n path)) ≡ f
  told_there q =
      ap (λ (i : ℕ). changed_by (others_changed (constraint (the_graph regions) i) (p / 2) (path_of n path))) (sym lent.at_home)
      ∙ ap changed_by (sym (scanned_there lent.tables lent.small lent.real (path_of n path))) ∙ sym q

  balance_there : {s l : ℕ} {b v : Bool} → s ≡ get_or path 0 0 → l ≡ get_or path (n - 1) 0 → BalancesThere incident own p l s home b → b ≡ v
      → balances (constraint (the_graph regions) home) (decoded (get_or path 0 0)) (decoded (get_or path (n - 1) 0)) ≡ v
  balance_there is_start is_last told q =
      rw (← is_start, ← is_last) (sym (told.balance_is lent.tables (rw is_last (sym lent.here)) lent.at_home
      (omega (arith, lent.real, lent.at_home))
      (rw is_start lent.start_there)) ∙ q)

  -- what `close_loop` leaves
  module _ {t : Float} {st : SearchState} where
    pub close_high : lt t (sub binary64 st.kept eps) ≡ false → Closed regions incident path best n p home t st best st
    close_high v = record { crosses = λ rd. crosses_high lent rd v }

    pub close_others : {s : ℕ} {f : Changed} → s ≡ get_or path 0 0 → f ≡ scanned → f ≢ One (s / 2)
        → Closed regions incident path best n p home t st best st
    close_others is_start q v = record {
      crosses = λ rd. crosses_others lent rd
          (λ e. v (sym (told_there q) ∙ e ∙ ap (λ (k : ℕ). One (k / 2)) (sym is_start)));
    }

    pub close_unbalanced : {s l : ℕ} {b : Bool} → s ≡ get_or path 0 0 → l ≡ get_or path (n - 1) 0 → BalancesThere incident own p l s home b → b ≡ false
        → Closed regions incident path best n p home t st best st
    close_unbalanced is_start is_last told v = record { crosses = λ rd. crosses_unbalanced lent rd (balance_there is_start is_last told v) }

    pub close_kept : {s l : ℕ} {b : Bool} {f : Changed} {best' : List ℕ} → s ≡ get_or path 0 0 → l ≡ get_or path (n - 1) 0
        → BalancesThere incident own p l s home b → b ≡ true
        → lt t (sub binary64 st.kept eps) ≡ true → f ≡ scanned → f ≡ One (s / 2) → take n best' ≡ take n path → length best' ≡ length best
        → Closed regions incident path best n p home t st best' (record { kept = t; expansions = st.expansions; len = n; cut = st.cut })
    close_kept is_start is_last told v less q m tk lb =
        record {
          crosses = λ rd. crosses_kept lent rd (balance_there is_start is_last told v) less
              (told_there q ∙ m ∙ ap (λ (k : ℕ). One (k / 2)) is_start) tk lb;
        }

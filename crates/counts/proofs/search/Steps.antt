-- One step of the search and one crossing of a constraint, from what is lent to what is left.
-- The idea: a path runs from constraint to constraint, and each constraint that it has passed is used. So an unused constraint, other than the
-- start's open one (`home`), holds no changed edge but perhaps the last (`away`), and if it holds the last edge it is the one to cross (`mine`).
-- Hence an edge tried in a crossing is not on the path, and after the crossing's mark no unused constraint besides `home` holds any changed edge.
-- Stepping to an edge with the constraints i, used, and o brings both facts back: o is unused and is the one to cross, or is used and the step is
-- barred. Assumes nothing.
use mathlib.Core.Logic.{◌≢◌, inl, inr}
use mathlib.Core.Path.{◌≡◌, refl, sym, ap, subst, ◌∙◌}
use mathlib.Core.Bool.{Bool, true, false, not, ◌&&◌, ◌||◌, cond, true≢false}
use mathlib.Core.List.{List, [], ◌∷◌, ◌++◌}
use Prim.Native.Nat.{ℕ, zero, suc, ◌+◌, ◌-◌, ◌/◌, ◌%◌, ◌≤◌, ◌<◌}
use native.Mathlib.Omega.{arith}
use native.Mathlib.Numerals.{add-one}
use lib.ListN.{length, get_or, take, set, length-set}
use lib.Seq.{take-take, take-set-le, take_all, get_or-set_other, get_or-set_same}
use lib.Dec.{eqb, T}
use lib.Ieee.{Float, nan, add, binary64}
use Rattle.base.specs.Lists.{In, any, each, differs}
use Rattle.regions.specs.Region.{Constraint, constraint, holds, incidence}
use Rattle.counts.specs.Move.{Change, select}
use Rattle.counts.specs.Search.{Act, Go, State, free, is_used, may_step, others_changed, partners, skip, visit}
use Rattle.counts.specs.inner.Tables.{Other, all_decoded, allowed_in, cost_in, decoded, path_of, state_of, the_graph, no_constraint}
use Rattle.counts.specs.inner.Tables.{path_size}
use Rattle.counts.specs.inner.SearchContract.{Crossed, MayCross, MayDfs, MayStep, MayTryStep, OtherSlot, SidesRead, Stepped, both_signed, dfs_of}
use Rattle.counts.specs.inner.SearchContract.{signed_in, try_partner_of, try_step_of, visit_of}
use Rattle.counts.specs.declared.search.SearchState.{SearchState}
use Rattle.counts.specs.declared.search.Sides.{Sides}
use Rattle.base.proofs.BoolLaws.{T_true, clash, false_T, ne→eqb, not_T_false, same→eqb}
use Rattle.counts.proofs.search.Used.{free_set, set_used, still_used, used_before}
use Rattle.regions.proofs.region.Constraints.{holds→incidence}
use Rattle.counts.proofs.search.Laws.{barred_other, dfs_enters, dfs_turned_back, each_both, each_suc, enter_one, may_is, may_not, none_but_next}
use Rattle.counts.proofs.search.Laws.{none_held, not_on_path, opposite_without, try_step_no, try_step_yes, unused_other, visit_crosses}
use Rattle.counts.proofs.search.Slots.{cost_at, encoded_decoded, other_in, other_real, other_same, path_longer, same_entry}
use Rattle.counts.proofs.search.TwoSides.{length_signed_in, signed_there}

-- ---- the ways of a step

-- The step to change d is not back to the last edge, and it is allowed; its edge has another constraint, o, at slot k.
pub record Leads (regions incident own : List ℕ) (allowed used : List Bool) (path best : List ℕ) (n e i d home o k : ℕ) : Type 0 where
  pub lent : MayTryStep regions incident own used path best n e i d home
  pub onward : d / 2 ≢ e
  pub is_allowed : get_or allowed d false ≡ true
  pub slot : OtherSlot incident (d / 2) i k
  pub entry_is : o ≡ get_or incident k 0
  pub other : Other (the_graph regions) (d / 2) i o
  pub real : o < no_constraint

pub leads_on : {regions incident own : List ℕ} {allowed used : List Bool} {path best : List ℕ} {n e i d home o k : ℕ}
    → MayTryStep regions incident own used path best n e i d home → d / 2 ≢ e → get_or allowed d false ≡ true → OtherSlot incident (d / 2) i k
    → o ≡ get_or incident k 0 → o ≢ no_constraint → Leads regions incident own allowed used path best n e i d home o k
leads_on lent ne h slot e n =
    let w = other_same e (slot.other_is lent.tables lent.step.through) in
    record { lent = lent; onward = ne; is_allowed = h; slot = slot; entry_is = e; other = w; real = other_real w n }

partner_differs : (b : Bool) (f : Act) (st : State) → b ≡ false → f st ≡ cond (not b) f skip st
partner_differs b f st e = ap (λ (a : Bool). cond (not a) f skip st) (sym e)

-- a change is allowed or not by its packed number
allowed_is : {b : Bool} (allowed : List Bool) (d : ℕ) → b ≡ get_or allowed d false → allowed_in allowed (d / 2) (eqb (d % 2) 1) ≡ b
allowed_is allowed d h = ap (λ (k : ℕ). get_or allowed k false) (encoded_decoded d) ∙ sym h

-- what the definition does with the step, once it is known whether it may be taken
module _ (regions : List ℕ) (costs : List Float) (allowed : List Bool) (limit : ℕ) (used : List Bool) (path best : List ℕ) (n e i d : ℕ) (t : Float)
    (st : SearchState) where
  abbrev c0 : ℕ
  c0 = get_or path 0 0

  abbrev go : Go
  go = dfs_of regions costs allowed limit c0 (suc (free used))

  abbrev here : Act
  here = try_step_of regions costs allowed limit c0 (suc (free used)) used (path_of n path) t i (decoded d)

  abbrev tried : State
  tried = try_partner_of regions costs allowed limit c0 (suc (free used)) used (path_of n path) e t i (decoded d) (state_of st best)

  abbrev may : Bool
  may = may_step (the_graph regions) (cost_in costs) (allowed_in allowed) limit (c0 / 2) (eqb (c0 % 2) 1) used (path_of n path) i (decoded d)

  -- no step back to the last edge
  back : d / 2 ≡ e → state_of st best ≡ tried
  back q = ap (λ (b : Bool). cond (not b) here skip (state_of st best)) (sym (ap (λ (k : ℕ). eqb (d / 2) k) (sym q) ∙ same→eqb (d / 2)))

  -- it is not taken
  barred : d / 2 ≢ e → may ≡ false → state_of st best ≡ tried
  barred ne m =
      try_step_no (the_graph regions) (cost_in costs) (allowed_in allowed) limit (c0 / 2) (eqb (c0 % 2) 1) go used (path_of n path) t i (decoded d)
      (state_of st best) m
      ∙ partner_differs (eqb (d / 2) e) here (state_of st best) (ne→eqb (d / 2) e ne)

  -- whether it may be taken, by the marks of the other constraints of its edge
  may_be : {home : ℕ} {b : Bool} → MayStep (the_graph regions) used path n e i d home → d / 2 ≢ e → get_or allowed d false ≡ true
      → any (λ (j : ℕ). differs i j && is_used used j) (incidence (the_graph regions) (d / 2)) ≡ b → may ≡ not b
  may_be s ne h u =
      may_is (the_graph regions) (cost_in costs) (allowed_in allowed) limit (c0 / 2) (eqb (c0 % 2) 1) used (path_of n path) i (decoded d) _
      (s.new ne)
      (allowed_is allowed d (sym h)) u

  -- it is taken, whatever comes of it
  pub step_taken : {home : ℕ} → MayStep (the_graph regions) used path n e i d home → d / 2 ≢ e → get_or allowed d false ≡ true
      → any (λ (j : ℕ). differs i j && is_used used j) (incidence (the_graph regions) (d / 2)) ≡ false
      → go used (path_of n path ++ decoded d ∷ []) (d / 2) (eqb (d % 2) 1) (add binary64 t (cost_in costs (d / 2) (eqb (d % 2) 1))) (state_of st best)
      ≡ tried
  step_taken s ne h u =
      try_step_yes (the_graph regions) (cost_in costs) (allowed_in allowed) limit (c0 / 2) (eqb (c0 % 2) 1) go used (path_of n path) t i (decoded d)
      (state_of st best) (may_be s ne h u)
      ∙ partner_differs (eqb (d / 2) e) here (state_of st best) (ne→eqb (d / 2) e ne)

-- what the code leaves
module _ {regions : List ℕ} {costs : List Float} {allowed : List Bool} {limit : ℕ} {used : List Bool} {path best : List ℕ} {n e i d : ℕ} {t : Float}
    {st : SearchState} where
  -- no change is written, and the kept reading stays
  pub nothing_written : (r : SearchState) → r.len ≡ st.len
      → state_of r best ≡ try_partner_of regions costs allowed limit (get_or path 0 0) (suc (free used)) used (path_of n path) e t i (decoded d)
      (state_of st best)
      → Stepped regions costs allowed limit used path best n e i d t st used path best r
  nothing_written r q a =
      record {
        used_kept = refl;
        path_kept = refl;
        long_kept = refl;
        best_kept = refl;
        short = λ h. subst (λ (k : ℕ). k ≤ path_size) (sym q) h;
        answer = a;
      }

  -- no step back to the last edge
  pub step_back : d / 2 ≡ e → Stepped regions costs allowed limit used path best n e i d t st used path best st
  step_back q = nothing_written _ refl (back regions costs allowed limit used path best n e i d t st q)

  -- the change is not allowed
  pub step_barred : d / 2 ≢ e → {b : Bool} → b ≡ get_or allowed d false → b ≡ false
      → Stepped regions costs allowed limit used path best n e i d t st used path best st
  step_barred ne h f =
      nothing_written _ refl (barred regions costs allowed limit used path best n e i d t st ne
      (may_not (the_graph regions) (cost_in costs) (allowed_in allowed) limit (get_or path 0 0 / 2) (eqb (get_or path 0 0 % 2) 1) used (path_of n path) i
      (decoded d)
      (allowed_is allowed d h ∙ f)))

  -- it is, and its edge has another constraint
  module _ {incident own : List ℕ} {home o k : ℕ} (m : Leads regions incident own allowed used path best n e i d home o k) where
    -- which is used already
    pub step_shut : is_used used o ≡ true → Stepped regions costs allowed limit used path best n e i d t st used path best st
    step_shut u =
        nothing_written _ refl (barred regions costs allowed limit used path best n e i d t st m.onward
        (may_be regions costs allowed limit used path best n e i d t st m.lent.step m.onward m.is_allowed
        (barred_other (the_graph regions) used (d / 2) i o m.real m.other ∙ u)))

    -- the entry is past the limit
    pub step_turned_back : is_used used o ≡ false → limit ≤ st.expansions
        → Stepped regions costs allowed limit used path best n e i d t st used path best
        (record { kept = st.kept; expansions = st.expansions; len = st.len; cut = true })
    step_turned_back u q =
        nothing_written _ refl (dfs_turned_back (the_graph regions) (cost_in costs) (allowed_in allowed) limit (get_or path 0 0 / 2)
        (eqb (get_or path 0 0 % 2) 1) (free used) used (path_of n path ++ decoded d ∷ []) (d / 2) (eqb (d % 2) 1)
        (add binary64 t (cost_in costs (d / 2) (eqb (d % 2) 1))) (state_of st best) q
        ∙ step_taken regions costs allowed limit used path best n e i d t st m.lent.step m.onward m.is_allowed
        (barred_other (the_graph regions) used (d / 2) i o m.real m.other ∙ u))

    -- the step is taken, and dfs crosses the other constraint
    pub step_crosses : {p : Float} {used' : List Bool} {path' best' : List ℕ} {r : SearchState}
        → is_used used o ≡ false → st.expansions < limit → p ≡ get_or costs d nan
        → Crossed regions incident costs allowed limit used (set path n d) best (n + 1) k (add binary64 t p)
        (record { kept = st.kept; expansions = st.expansions + 1; len = st.len; cut = st.cut }) used' path' best' r
        → Stepped regions costs allowed limit used path best n e i d t st used' path' best' r
    step_crosses {p} {used'} {path'} {best'} {r} u lim pr dn =
        record {
          used_kept = dn.used_kept;
          path_kept = sym (take-take n (n + 1) path' (omega arith)) ∙ ap (take n) dn.path_kept ∙ take-take n (n + 1) (set path n d) (omega arith)
              ∙ take-set-le n path n d (omega arith);
          long_kept = dn.long_kept ∙ length-set path n d;
          best_kept = dn.best_kept;
          short = dn.short;
          answer = dn.answer ∙ same
              ∙ enter_one (the_graph regions) (cost_in costs) (allowed_in allowed) limit (c0' / 2) (eqb (c0' % 2) 1)
              (dfs_of regions costs allowed limit c0' (free used)) used longer (d / 2) (eqb (d % 2) 1) cost' o (state_of st best)
              (unused_other (the_graph regions) used (d / 2) i o m.real m.other m.lent.step.taken u)
              ∙ dfs_enters (the_graph regions) (cost_in costs) (allowed_in allowed) limit (c0' / 2) (eqb (c0' % 2) 1) (free used) used
              longer (d / 2) (eqb (d % 2) 1) cost' (state_of st best) lim
              ∙ step_taken regions costs allowed limit used path best n e i d t st m.lent.step m.onward m.is_allowed
              (barred_other (the_graph regions) used (d / 2) i o m.real m.other ∙ u);
        }
      where
        room : n < length path
        room = omega (arith, m.lent.step.path_long, m.lent.step.room)

        c0' : ℕ
        c0' = get_or path 0 0

        longer : List Change
        longer = path_of n path ++ decoded d ∷ []

        cost' : Float
        cost' = add binary64 t (cost_in costs (d / 2) (eqb (d % 2) 1))

        goal : (c : ℕ) (pp : List Change) (z : ℕ) (u : Float) (j x : ℕ) → State
        goal c pp z u j x =
            visit_of regions costs allowed limit c (free used) used pp z u j
            (record { expansions = x; cut = st.cut; kept = st.kept; best = path_of st.len best })

        same : goal (get_or (set path n d) 0 0) (path_of (n + 1) (set path n d)) (get_or (set path n d) (n + 1 - 1) 0) (add binary64 t p)
            (get_or incident k 0) (st.expansions + 1)
            ≡ goal c0' longer d cost' o (suc st.expansions)
        same =
            ap (λ (c : ℕ). goal c (path_of (n + 1) (set path n d)) (get_or (set path n d) (n + 1 - 1) 0) (add binary64 t p) (get_or incident k 0)
            (st.expansions + 1))
            (get_or-set_other path n 0 d 0 (omega (arith, m.lent.step.one)))
            ∙ ap (λ (pp : List Change). goal c0' pp (get_or (set path n d) (n + 1 - 1) 0) (add binary64 t p) (get_or incident k 0) (st.expansions + 1))
            (path_longer path n d room)
            ∙ ap (λ (z : ℕ). goal c0' longer z (add binary64 t p) (get_or incident k 0) (st.expansions + 1))
            (ap (λ (x : ℕ). get_or (set path n d) x 0) (let q : n + 1 - 1 ≡ n = omega arith in q) ∙ get_or-set_same path n d 0 room)
            ∙ ap (λ (v : Float). goal c0' longer d (add binary64 t v) (get_or incident k 0) (st.expansions + 1)) (cost_at costs d p pr)
            ∙ ap (λ (j : ℕ). goal c0' longer d cost' j (st.expansions + 1)) (sym m.entry_is)
            ∙ ap (goal c0' longer d cost' o) (add-one st.expansions)

-- ---- from a step to a crossing

start_differs : (l : List ℕ) (n y : ℕ) → 1 ≤ n → 1 ≤ length l → any (λ (w : Change). eqb w.0 y) (path_of n l) ≡ false → get_or l 0 0 / 2 ≢ y
start_differs [] n y h h' e q = omega (arith, h')
start_differs (x ∷ l) zero y h h' e q = omega (arith, h)
start_differs (x ∷ l) (suc n) y h h' e q = true≢false
    (sym (ap (λ (b : Bool). b || any (λ (w : Change). eqb w.0 y) (path_of n l)) (ap (λ (k : ℕ). eqb k y) q ∙ same→eqb y)) ∙ e)

-- what `dfs` is lent: of the new edge's two constraints one is used and the other is to be crossed, so both invariants hold again
pub may_cross_next : {regions incident own : List ℕ} {allowed used : List Bool} {path best : List ℕ} {n e i d home o k : ℕ}
    → Leads regions incident own allowed used path best n e i d home o k → is_used used o ≡ false
    → MayDfs regions incident own used (set path n d) best (n + 1) k home
may_cross_next {regions} {incident} {own} {allowed} {used} {path} {best} {n} {e} {i} {d} {home} {o} {k} leads u =
    record {
      tables = leads.lent.tables;
      best_long = leads.lent.best_long;
      cross = record {
        one = omega arith;
        room = s.room;
        long = s.long;
        path_long = length-set path n d ∙ s.path_long;
        small = leads.slot.below;
        here = ap (λ (m : ℕ). get_or (set path n d) m 0 / 2) (let q : n + 1 - 1 ≡ n = omega arith in q)
            ∙ ap (λ (m : ℕ). m / 2) (get_or-set_same path n d 0 room) ∙ sym at_y;
        real = subst (λ (m : ℕ). m < no_constraint) leads.entry_is leads.real;
        unused = ap (is_used used) (sym leads.entry_is) ∙ u;
        away = λ j v nh. ap (λ (y : ℕ). others_changed (constraint g j) y (path_of (n + 1) (set path n d))) at_y
            ∙ ap (others_changed (constraint g j) (d / 2)) (path_longer path n d room)
            ∙ none_but_next (constraint g j) (d / 2) (eqb (d % 2) 1) (path_of n path) (s.away j v nh);
        mine = λ j v nh h. which j v (holds→incidence g j (d / 2) (subst (λ (y : ℕ). T (holds (constraint g j) y)) at_y h)) ∙ leads.entry_is;
        home_is = record {
          at_start = λ q. subst (λ (c : ℕ). T (holds (constraint g home) (c / 2))) (sym start_kept) (s.home_is.at_start q);
          unmet = s.home_is.unmet;
          at_most = s.home_is.at_most;
        };
        far = λ q v. start_differs path n (d / 2) s.one (omega (arith, s.path_long)) (s.new leads.onward)
            (ap (λ (c : ℕ). c / 2) (sym start_kept) ∙ v ∙ at_y);
      };
    }
  where
    g : List Constraint
    g = the_graph regions

    s : MayStep (the_graph regions) used path n e i d home
    s = leads.lent.step

    at_y : k / 2 ≡ d / 2
    at_y = leads.slot.of_edge

    room : n < length path
    room = omega (arith, s.path_long, s.room)

    start_kept : get_or (set path n d) 0 0 ≡ get_or path 0 0
    start_kept = get_or-set_other path n 0 d 0 (omega (arith, s.one))

    which : (j : ℕ) → is_used used j ≡ false → In j (incidence g (d / 2)) → j ≡ o
    which j v m = elim (other_in leads.other m) [ inl a ↦ absurd (true≢false (sym s.taken ∙ ap (is_used used) (sym a) ∙ v)) | inr a ↦ a ]

-- ---- the walk along both sides

-- the invariant after j of the partners l, each of which `act` tries
pub record Walking (act : Change → Act) (l : List Change) (n : ℕ) (used₀ : List Bool) (path₀ best₀ : List ℕ) (s₀ : SearchState)
    (used : List Bool) (path best : List ℕ) (s : SearchState) (j : ℕ) : Type 0 where
  pub same_used : used ≡ used₀
  pub same_path : take n path ≡ take n path₀
  pub same_long : length path ≡ length path₀
  pub same_best : length best ≡ length best₀
  pub short : s₀.len ≤ path_size → s.len ≤ path_size
  pub so_far : state_of s best ≡ each act (take j l) (state_of s₀ best₀)

-- The partner d is to be tried, after the mark of the constraint that is crossed.
module _ {regions incident own : List ℕ} {used₀ : List Bool} {path₀ best₀ : List ℕ} {n p home ci : ℕ}
    (lent : MayDfs regions incident own used₀ path₀ best₀ n p home)
    (cn : ci ≡ get_or incident p 0) (nh : ci ≢ home) {act : Change → Act} {l : List Change} {s₀ : SearchState} {used : List Bool} {path best : List ℕ}
    {s : SearchState} {j : ℕ}
    (inv : Walking act l n (set used₀ ci true) path₀ best₀ s₀ used path best s j) where
  abbrev k : ℕ → Constraint
  k = constraint (the_graph regions)

  open₀ : is_used used₀ ci ≡ false
  open₀ = ap (is_used used₀) cn ∙ lent.cross.unused

  -- one constraint less is unused
  pub fewer : suc (free used) ≡ free used₀
  fewer = ap (λ (u : List Bool). suc (free u)) inv.same_used ∙ free_set used₀ ci (false_T (is_used used₀ ci) open₀)

  was : (i : ℕ) → is_used used i ≡ false → is_used used₀ i ≡ false
  was i v =
      not_T_false (is_used used₀ i) (λ t. clash (is_used used i)
      (subst (λ (u : List Bool). T (is_used u i)) (sym inv.same_used) (still_used used₀ ci i t)) (false_T (is_used used i) v))

  not_ci : (i : ℕ) → is_used used i ≡ false → i ≡ ci → ⊥
  not_ci i v q =
      clash (is_used used i)
      (subst (λ (m : ℕ). T (is_used used m)) (sym q) (subst (λ (u : List Bool). T (is_used u ci)) (sym inv.same_used) (set_used used₀ ci)))
      (false_T (is_used used i) v)

  -- what `try_step` is lent: the constraint crossed is used now, so `mine` makes every unused one but `home` free of the path's edges
  pub may_step_now : (d : ℕ) → T (holds (k (get_or incident p 0)) (d / 2)) → MayTryStep regions incident own used path best n (p / 2) ci d home
  may_step_now d h =
      record {
        tables = lent.tables;
        best_long = inv.same_best ∙ lent.best_long;
        step = record {
          one = rd.one;
          room = omega (arith, rd.room, fewer);
          long = ap length inv.same_used ∙ length-set used₀ ci true ∙ rd.long;
          path_long = inv.same_long ∙ rd.path_long;
          small = omega (arith, lent.tables.few (get_or incident p 0) (d / 2) h);
          through = there;
          taken = ap (λ (u : List Bool). is_used u ci) inv.same_used ∙ T_true (is_used (set used₀ ci true) ci) (set_used used₀ ci);
          new = λ ne. ap (λ (m : List ℕ). any (λ (w : Change). eqb w.0 (d / 2)) (all_decoded m)) inv.same_path
              ∙ not_on_path (k ci) (p / 2) (d / 2) (path_of n path₀) (rd.away ci open₀ nh) there ne;
          away = λ i v ni. ap (λ (m : List ℕ). select (holds (k i)) (all_decoded m)) inv.same_path
              ∙ none_held (k i) (p / 2) (path_of n path₀) (rd.away i (was i v) ni) (λ y. not_ci i v (rd.mine i (was i v) ni y ∙ sym cn));
          home_is = record {
            at_start = λ q. subst (λ (c : ℕ). T (holds (k home) (c / 2))) (sym (same_entry n path path₀ 0 inv.same_path (omega (arith, rd.one))))
                (rd.home_is.at_start q);
            unmet = λ q. ap (λ (u : List Bool). is_used u home) inv.same_used ∙ still_open q;
            at_most = rd.home_is.at_most;
          };
        };
      }
    where
      rd : MayCross (the_graph regions) incident used₀ path₀ n p home
      rd = lent.cross

      there : T (holds (k ci) (d / 2))
      there = subst (λ (i : ℕ). T (holds (k i) (d / 2))) (sym cn) h

      still_open : home ≢ no_constraint → is_used (set used₀ ci true) home ≡ false
      still_open q =
          not_T_false (is_used (set used₀ ci true) home)
          (λ t. clash (is_used used₀ home) (used_before used₀ ci home (λ e. nh (sym e)) t) (false_T (is_used used₀ home) (rd.home_is.unmet q)))

-- one more partner
pub walks_on : {regions : List ℕ} {costs : List Float} {allowed : List Bool} {limit : ℕ} {used₀ : List Bool} {path₀ best₀ : List ℕ} {n x ci : ℕ}
    {t : Float} {s₀ : SearchState} {l : List Change}
    {used : List Bool} {path best : List ℕ} {s : SearchState} {j d : ℕ} {used' : List Bool} {path' best' : List ℕ} {s' : SearchState}
    → Walking (try_partner_of regions costs allowed limit (get_or path₀ 0 0) (suc (free used₀)) used₀ (path_of n path₀) x t ci) l n used₀ path₀ best₀ s₀
    used path best s j
    → 1 ≤ n → j < length l → decoded d ≡ get_or l j (decoded 0)
    → Stepped regions costs allowed limit used path best n x ci d t s used' path' best' s'
    → Walking (try_partner_of regions costs allowed limit (get_or path₀ 0 0) (suc (free used₀)) used₀ (path_of n path₀) x t ci) l n used₀ path₀ best₀ s₀
    used' path' best' s' (j + 1)
walks_on {regions} {costs} {allowed} {limit} {used₀} {path₀} {best₀} {n} {x} {ci} {t} {s₀} {l} {used} {path} {best} {s} {j} {d} inv one h e st =
    record {
      same_used = st.used_kept ∙ inv.same_used;
      same_path = st.path_kept ∙ inv.same_path;
      same_long = st.long_kept ∙ inv.same_long;
      same_best = st.best_kept ∙ inv.same_best;
      short = λ m. st.short (inv.short m);
      so_far = st.answer ∙ moved ∙ ap (λ (w : Change). act w (state_of s best)) e ∙ ap (act (get_or l j (decoded 0))) inv.so_far
          ∙ sym (each_suc act l j (decoded 0) (state_of s₀ best₀) h) ∙ ap (λ (m : ℕ). each act (take m l) (state_of s₀ best₀)) (sym (add-one j));
    }
  where
    at : ℕ → List Bool → List ℕ → Change → Act
    at c0 u m = try_partner_of regions costs allowed limit c0 (suc (free u)) u (all_decoded m) x t ci

    act : Change → Act
    act = at (get_or path₀ 0 0) used₀ (take n path₀)

    moved : at (get_or path 0 0) used (take n path) (decoded d) (state_of s best) ≡ act (decoded d) (state_of s best)
    moved =
        ap (λ (c0 : ℕ). at c0 used (take n path) (decoded d) (state_of s best)) (same_entry n path path₀ 0 inv.same_path (omega (arith, one)))
        ∙ ap (λ (u : List Bool). at (get_or path₀ 0 0) u (take n path) (decoded d) (state_of s best)) inv.same_used
        ∙ ap (λ (m : List ℕ). at (get_or path₀ 0 0) used₀ m (decoded d) (state_of s best)) inv.same_path

-- the mark is taken back
mark_back : (used : List Bool) (i : ℕ) → is_used used i ≡ false → set (set used i true) i false ≡ used
mark_back [] i e = refl
mark_back (b ∷ used) zero e = ap {B = List Bool} (λ (a : Bool). a ∷ used) (sym e)
mark_back (b ∷ used) (suc i) e = ap {B = List Bool} (λ u. b ∷ u) (mark_back used i e)

-- all partners were tried
pub walk_ends : {regions incident own : List ℕ} {costs : List Float} {allowed : List Bool} {limit : ℕ} {used₀ : List Bool} {path₀ best₀ : List ℕ}
    {n p home : ℕ} {t : Float} {s₀ : SearchState} {ci c : ℕ}
    {r : Sides} {used : List Bool} {path best : List ℕ} {s : SearchState} {j : ℕ}
    → MayDfs regions incident own used₀ path₀ best₀ n p home → ci ≡ get_or incident p 0 → ci ≢ home → c ≡ get_or path₀ (n - 1) 0
    → SidesRead regions (get_or own p 0) r → r.total ≤ j
    → Walking (try_partner_of regions costs allowed limit (get_or path₀ 0 0) (suc (free (set used₀ ci true))) (set used₀ ci true) (path_of n path₀)
    (p / 2) t ci)
    (signed_in regions r (eqb (c % 2) 1)) n (set used₀ ci true) path₀ best₀ s₀ used path best s j
    → Crossed regions incident costs allowed limit used₀ path₀ best₀ n p t s₀ (set used ci false) path best s
walk_ends {regions} {incident} {own} {costs} {allowed} {limit} {used₀} {path₀} {best₀} {n} {p} {home} {t} {s₀} {ci} {c} {r} {used} {path} {best} {s}
    {j} lent cn nh cc read done inv =
    record {
      used_kept = ap (λ (u : List Bool). set u ci false) inv.same_used ∙ mark_back used₀ ci open₀;
      path_kept = inv.same_path;
      long_kept = inv.same_long;
      best_kept = inv.same_best;
      short = inv.short;
      answer = inv.so_far ∙ ap (λ (m : List Change). each act m (state_of s₀ best₀))
          (take_all j l (omega (arith, length_signed_in read.inside sign, done)) ∙ all_there)
          ∙ each_both (step (suc (free (set used₀ ci true)))) k (p / 2) sign (state_of s₀ best₀)
          (opposite_without k (p / 2) (lent.tables.parted ci (p / 2)))
          ∙ ap (λ (m : ℕ). each (step m) (partners k (p / 2) sign) (state_of s₀ best₀)) (free_set used₀ ci (false_T (is_used used₀ ci) open₀))
          ∙ ap (λ (f : Act). f (state_of s₀ best₀))
          (visit_crosses (the_graph regions) (cost_in costs) (allowed_in allowed) limit (c0 / 2) (eqb (c0 % 2) 1)
          (dfs_of regions costs allowed limit c0 (free used₀)) used₀ (path_of n path₀) (p / 2) sign t ci (rd.away ci open₀ nh))
          ∙ ap (λ (y : ℕ). at y c ci) (sym rd.here) ∙ ap (λ (z : ℕ). at (get_or path₀ (n - 1) 0 / 2) z ci) cc
          ∙ ap (at (get_or path₀ (n - 1) 0 / 2) (get_or path₀ (n - 1) 0)) cn;
    }
  where
    rd : MayCross (the_graph regions) incident used₀ path₀ n p home
    rd = lent.cross

    c0 : ℕ
    c0 = get_or path₀ 0 0

    sign : Bool
    sign = eqb (c % 2) 1

    k : Constraint
    k = constraint (the_graph regions) ci

    l : List Change
    l = signed_in regions r sign

    all_there : l ≡ both_signed k (p / 2) sign
    all_there = signed_there lent.tables rd.small rd.real read sign
        ∙ ap (λ (i : ℕ). both_signed (constraint (the_graph regions) i) (p / 2) sign) (sym cn)

    step : ℕ → Change → Act
    step m = try_step_of regions costs allowed limit c0 m (set used₀ ci true) (path_of n path₀) t ci

    act : Change → Act
    act = try_partner_of regions costs allowed limit c0 (suc (free (set used₀ ci true))) (set used₀ ci true) (path_of n path₀) (p / 2) t ci

    open₀ : is_used used₀ ci ≡ false
    open₀ = ap (is_used used₀) cn ∙ rd.unused

    at : ℕ → ℕ → ℕ → State
    at y z i =
        visit (the_graph regions) (cost_in costs) (allowed_in allowed) limit (c0 / 2) (eqb (c0 % 2) 1)
        (dfs_of regions costs allowed limit c0 (free used₀)) used₀ (path_of n path₀)
        y (eqb (z % 2) 1) t i (state_of s₀ best₀)

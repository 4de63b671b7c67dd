-- The definition of the search, one law for each way that it can go. Assumes nothing.
-- First what an edge's constraints say of a step to it, then one level of the search, then the walk along both sides of a constraint, then what the
-- path leaves in an unused constraint, and at last which paths are complete and what is recorded.
use mathlib.Core.Logic.{◌≢◌, inl, inr}
use mathlib.Core.Path.{◌≡◌, refl, sym, ap, subst, ◌∙◌}
use mathlib.Core.Bool.{Bool, true, false, not, ◌&&◌, ◌||◌, cond, true≢false, or-false}
use mathlib.Core.List.{List, [], ◌∷◌, ◌++◌}
use Prim.Native.Nat.{ℕ, suc, ◌≤◌, ◌<◌}
use native.Mathlib.Omega.{arith}
use lib.ListN.{length, get_or, take, set}
use lib.Seq.{take-suc}
use lib.Dec.{eqb, T, leb, eqb→eq, eqb_refl, le→leb}
use lib.Arith.{lt→nleb}
use lib.Ieee.{Float, lt, sub, add, binary64}
use Rattle.base.specs.Lists.{In, all, any, each, filter, member, differs}
use Rattle.regions.specs.Region.{Constraint, constraint, holds, incidence, opposite_side, own_side}
use Rattle.counts.specs.Move.{Change, select}
use Rattle.counts.specs.Search.{Act, Go, State, dfs, enter, enter_by, entered, eps, is_used, keep_reading, may_step, others_changed, partners}
use Rattle.counts.specs.Search.{path_is_complete, record_path, signed, skip, try_step, turned_back, visit, visit_by}
use Rattle.counts.specs.inner.Tables.{Other, after, alone, before, no_constraint}
use Rattle.counts.specs.inner.SearchContract.{both_signed}
use Rattle.base.proofs.BoolLaws.{T_true, clash, false_T, ne→eqb, not_T_false, same→eqb}
use Rattle.base.proofs.ListLaws.{every, in_split, not_any, nothing_in}
use Rattle.regions.proofs.region.Constraints.{incidence→holds}
use Rattle.counts.proofs.MoveLaws.{select_in, select_none}

-- ---- acts done one after the other

pub each_append : {S A : Type 0} (f : A → S → S) (l m : List A) (st : S) → each f (l ++ m) st ≡ each f m (each f l st)
each_append f [] m st = refl
each_append f (x ∷ l) m st = each_append f l m (f x st)

-- one more turn of a loop over l
pub each_suc : {A : Type 0} (f : A → Act) (l : List A) (j : ℕ) (d : A) (st : State) → j < length l
    → each f (take (suc j) l) st ≡ f (get_or l j d) (each f (take j l) st)
each_suc f l j d st h = ap (λ k. each f k st) (take-suc l j d h) ∙ each_append f (take j l) (get_or l j d ∷ []) st

-- ---- the constraints of an edge y that is reached through i

module _ (g : List Constraint) where
  abbrev unused_of : List Bool → ℕ → List ℕ
  unused_of used y = filter (λ (j : ℕ). not (is_used used j)) (incidence g y)

  pub unused_alone : (used : List Bool) (y i : ℕ) → incidence g y ≡ i ∷ [] → is_used used i ≡ true → unused_of used y ≡ []
  unused_alone used y i e u = ap (filter (λ (j : ℕ). not (is_used used j))) e ∙ ap (λ (b : Bool). cond {A = List ℕ} (not b) (i ∷ []) []) u

  pub unused_other : (used : List Bool) (y i o : ℕ) → o < no_constraint → Other g y i o → is_used used i ≡ true → is_used used o ≡ false
      → unused_of used y ≡ o ∷ []
  unused_other used y i o h (alone e q) u v = absurd (omega (arith, e))
  unused_other used y i o h (after l n q) u v =
      ap (filter (λ (j : ℕ). not (is_used used j))) q
      ∙ ap (λ (b : Bool). cond {A = List ℕ} (not b) (i ∷ cond (not (is_used used o)) (o ∷ []) []) (cond (not (is_used used o)) (o ∷ []) [])) u
      ∙ ap (λ (b : Bool). cond {A = List ℕ} (not b) (o ∷ []) []) v
  unused_other used y i o h (before l n q) u v =
      ap (filter (λ (j : ℕ). not (is_used used j))) q
      ∙ ap (λ (b : Bool). cond {A = List ℕ} (not b) (o ∷ cond (not (is_used used i)) (i ∷ []) []) (cond (not (is_used used i)) (i ∷ []) [])) v
      ∙ ap {B = List ℕ} (λ (b : Bool). o ∷ cond {A = List ℕ} (not b) (i ∷ []) []) u

  -- whether a constraint of y other than i is used
  abbrev barred : List Bool → ℕ → ℕ → Bool
  barred used i y = any (λ (j : ℕ). differs i j && is_used used j) (incidence g y)

  pub barred_alone : (used : List Bool) (y i : ℕ) → incidence g y ≡ i ∷ [] → barred used i y ≡ false
  barred_alone used y i e = ap (any (λ (j : ℕ). differs i j && is_used used j)) e ∙ ap (λ (b : Bool). (not b && is_used used i) || false) (same→eqb i)

  pub barred_other : (used : List Bool) (y i o : ℕ) → o < no_constraint → Other g y i o → barred used i y ≡ is_used used o
  barred_other used y i o h (alone e q) = absurd (omega (arith, e))
  barred_other used y i o h (after l n q) =
      ap (any (λ (j : ℕ). differs i j && is_used used j)) q
      ∙ ap (λ (b : Bool). (not b && is_used used i) || ((not (eqb o i) && is_used used o) || false)) (same→eqb i)
      ∙ ap (λ (b : Bool). (not b && is_used used o) || false) (ne→eqb o i n) ∙ or-false (is_used used o)
  barred_other used y i o h (before l n q) =
      ap (any (λ (j : ℕ). differs i j && is_used used j)) q
      ∙ ap (λ (b : Bool). (not (eqb o i) && is_used used o) || ((not b && is_used used i) || false)) (same→eqb i)
      ∙ ap (λ (b : Bool). (not b && is_used used o) || false) (ne→eqb o i n) ∙ or-false (is_used used o)

-- ---- one level of the search

module _ (g : List Constraint) (edge_cost : ℕ → Bool → Float) (allowed : ℕ → Bool → Bool) (limit : ℕ) (x0 : ℕ) (s0 : Bool) where
  abbrev may : List Bool → List Change → ℕ → Change → Bool
  may used path i z = may_step g edge_cost allowed limit x0 s0 used path i z

  abbrev on_path : List Change → ℕ → Bool
  on_path path y = any (λ (w : Change). eqb w.0 y) path

  pub may_not : (used : List Bool) (path : List Change) (i : ℕ) (z : Change) → allowed z.0 z.1 ≡ false → may used path i z ≡ false
  may_not used path i z e = ap (λ (b : Bool). not (on_path path z.0) && (not (barred g used i z.0) && b)) e
      ∙ go (not (on_path path z.0)) (not (barred g used i z.0))
    where
      go : (a b : Bool) → (a && (b && false)) ≡ false
      go true true = refl
      go true false = refl
      go false b = refl

  pub may_is : (used : List Bool) (path : List Change) (i : ℕ) (z : Change) (b : Bool) → on_path path z.0 ≡ false → allowed z.0 z.1 ≡ true
      → barred g used i z.0 ≡ b → may used path i z ≡ not b
  may_is used path i z b m e f =
      ap (λ (a : Bool). not a && (not (barred g used i z.0) && allowed z.0 z.1)) m
      ∙ ap (λ (a : Bool). not (barred g used i z.0) && a) e ∙ ap (λ (a : Bool). not a && true) f ∙ go b
    where
      go : (b : Bool) → (not b && true) ≡ not b
      go true = refl
      go false = refl

  pub try_step_no : (go : Go) (used : List Bool) (path : List Change) (t : Float) (i : ℕ) (z : Change) (st : State) → may used path i z ≡ false
      → st ≡ try_step g edge_cost allowed limit x0 s0 go used path t i z st
  unfolding try_step
  try_step_no go used path t i z st e = ap (λ (b : Bool). cond b (go used (path ++ z ∷ []) z.0 z.1 (add binary64 t (edge_cost z.0 z.1)))
      skip st) (sym e)

  pub try_step_yes : (go : Go) (used : List Bool) (path : List Change) (t : Float) (i : ℕ) (z : Change) (st : State) → may used path i z ≡ true
      → go used (path ++ z ∷ []) z.0 z.1 (add binary64 t (edge_cost z.0 z.1)) st ≡ try_step g edge_cost allowed limit x0 s0 go used path t
      i z st
  unfolding try_step
  try_step_yes go used path t i z st e = ap (λ (b : Bool). cond b (go used (path ++ z ∷ []) z.0 z.1 (add binary64 t (edge_cost z.0 z.1)))
      skip st) (sym e)

  pub dfs_turned_back : (k : ℕ) (used : List Bool) (path : List Change) (x : ℕ) (s : Bool) (t : Float) (st : State) → limit ≤ st.expansions
      → turned_back st ≡ dfs g edge_cost allowed limit x0 s0 (suc k) used path x s t st
  unfolding dfs
  dfs_turned_back k used path x s t st h = ap (λ (b : Bool). cond b turned_back
      (enter g edge_cost allowed limit x0 s0 (dfs g edge_cost allowed limit x0 s0 k) used path x s t) st) (sym
      (T_true (leb limit st.expansions) (le→leb limit st.expansions h)))

  pub dfs_enters : (k : ℕ) (used : List Bool) (path : List Change) (x : ℕ) (s : Bool) (t : Float) (st : State) → st.expansions < limit
      → enter g edge_cost allowed limit x0 s0 (dfs g edge_cost allowed limit x0 s0 k) used path x s t st ≡ dfs g edge_cost allowed limit x0 s0 (suc k)
      used path x s t st
  unfolding dfs
  dfs_enters k used path x s t st h = ap (λ (b : Bool). cond b turned_back
      (enter g edge_cost allowed limit x0 s0 (dfs g edge_cost allowed limit x0 s0 k) used path x s t) st) (sym
      (not_T_false (leb limit st.expansions) (λ u. clash (leb limit st.expansions) u (lt→nleb limit st.expansions h))))

  pub enter_one : (go : Go) (used : List Bool) (path : List Change) (x : ℕ) (s : Bool) (t : Float) (o : ℕ) (st : State) → unused_of g used x ≡ o ∷ []
      → visit g edge_cost allowed limit x0 s0 go used path x s t o (entered st) ≡ enter g edge_cost allowed limit x0 s0 go used path x s t st
  unfolding enter
  enter_one go used path x s t o st e = ap (λ (l : List ℕ). enter_by g edge_cost allowed limit x0 s0 go used path x s t l (entered st)) (sym e)

  pub enter_none : (go : Go) (used : List Bool) (path : List Change) (x : ℕ) (s : Bool) (t : Float) (st : State) → unused_of g used x ≡ []
      → record_path g used path t (entered st) ≡ enter g edge_cost allowed limit x0 s0 go used path x s t st
  unfolding enter
  enter_none go used path x s t st e = ap (λ (l : List ℕ). enter_by g edge_cost allowed limit x0 s0 go used path x s t l (entered st)) (sym e)

  pub visit_crosses : (go : Go) (used : List Bool) (path : List Change) (x : ℕ) (s : Bool) (t : Float) (i : ℕ)
      → others_changed (constraint g i) x path ≡ []
      → each (try_step g edge_cost allowed limit x0 s0 go (set used i true) path t i) (partners (constraint g i) x s) ≡ visit g edge_cost allowed
      limit x0 s0 go used path x s t i
  unfolding visit
  visit_crosses go used path x s t i e = ap (visit_by g edge_cost allowed limit x0 s0 go used path x s t i) (sym e)

-- ---- a walk along both sides that skips the last edge itself

each_opposite : (f : Change → Act) (x : ℕ) (s : Bool) (l : List ℕ) (st : State) → member x l ≡ false
    → each f (signed s l) st ≡ each (λ (z : Change). cond (differs x z.0) (f z) skip) (signed s l) st
each_opposite f x s [] st e = refl
each_opposite f x s (y ∷ l) st e =
    each_opposite f x s l (f (y, s) st) (go (eqb x y) (member x l) e).1
    ∙ ap (λ (b : Bool). each (λ (z : Change). cond (differs x z.0) (f z) skip) (signed s l) (cond (not b) (f (y, s)) skip st)) (sym other_way)
  where
    go : (a b : Bool) → (a || b) ≡ false → (a ≡ false) × (b ≡ false)
    go true b q = absurd (true≢false q)
    go false b q = (refl, q)

    other_way : eqb y x ≡ false
    other_way = not_T_false (eqb y x) (λ u. clash (eqb x y) (subst (λ (k : ℕ). T (eqb x k)) (sym (eqb→eq y x u)) (eqb_refl x))
        (false_T (eqb x y) (go (eqb x y) (member x l) e).0))

each_own : (f : Change → Act) (x : ℕ) (s : Bool) (l : List ℕ) (st : State)
    → each f (signed s (filter (differs x) l)) st ≡ each (λ (z : Change). cond (differs x z.0) (f z) skip) (signed s l) st
each_own f x s [] st = refl
each_own f x s (y ∷ l) st = go (differs x y) (each_own f x s l)
  where
    go : (b : Bool) → ((st : State) → each f (signed s (filter (differs x) l)) st ≡ each (λ (z : Change). cond (differs x z.0) (f z) skip)
        (signed s l) st)
        → each f (signed s (cond b (y ∷ filter (differs x) l) (filter (differs x) l))) st ≡ each (λ (z : Change). cond (differs x z.0) (f z) skip)
        (signed s l) (cond b (f (y, s)) skip st)
    go true h = h (f (y, s) st)
    go false h = h st

pub each_both : (f : Change → Act) (c : Constraint) (x : ℕ) (s : Bool) (st : State) → member x (opposite_side c x) ≡ false
    → each (λ (z : Change). cond (differs x z.0) (f z) skip) (both_signed c x s) st ≡ each f (partners c x s) st
each_both f c x s st e =
    each_append (λ (z : Change). cond (differs x z.0) (f z) skip) (signed s (opposite_side c x)) (signed (not s) (own_side c x)) st
    ∙ ap (each (λ (z : Change). cond (differs x z.0) (f z) skip) (signed (not s) (own_side c x)))
    (sym (each_opposite f x s (opposite_side c x) st e))
    ∙ sym (each_own f x (not s) (own_side c x) (each f (signed s (opposite_side c x)) st))
    ∙ sym (each_append f (signed s (opposite_side c x)) (signed (not s) (filter (differs x) (own_side c x))) st)

pub opposite_without : (c : Constraint) (x : ℕ) → (T (member x c.a) → T (member x c.b) → ⊥) → member x (opposite_side c x) ≡ false
opposite_without c x h = go (member x c.a) (λ u. u) (λ u. u)
  where
    go : (b : Bool) → (T b → T (member x c.a)) → (T (member x c.a) → T b) → member x (cond b c.b c.a) ≡ false
    go true f f' = not_T_false (member x c.b) (h (f tt))
    go false f f' = not_T_false (member x c.a) (λ u. absurd (f' u))

-- ---- what an unused constraint holds of the path

-- no edge of the path besides x, and not x: none at all
pub none_held : (c : Constraint) (x : ℕ) (path : List Change) → others_changed c x path ≡ [] → (T (holds c x) → ⊥) → select (holds c) path ≡ []
none_held c x path e h = select_none (holds c) path
    (λ z i t. nothing_in z (others_changed c x path) (select_in (λ (y : ℕ). differs x y && holds c y) z path i (both_hold z.0 t)) e)
  where
    both_hold : (y : ℕ) → T (holds c y) → T (differs x y && holds c y)
    both_hold y t = lib.Ieee.Fits.and_i (differs x y) (holds c y)
        (lib.Dec.not_T (eqb y x) (λ u. h (subst (λ (k : ℕ). T (holds c k)) (eqb→eq y x u) t))) t

-- an edge of the constraint other than x is not on the path
pub not_on_path : (c : Constraint) (x y : ℕ) (path : List Change) → others_changed c x path ≡ [] → T (holds c y) → y ≢ x
    → any (λ (w : Change). eqb w.0 y) path ≡ false
not_on_path c x y path e h n = not_T_false (any (λ (w : Change). eqb w.0 y) path)
    (λ t. clash (any (λ (w : Change). eqb w.0 y) path) t (not_any (λ (w : Change). eqb w.0 y) path (λ z i u.
    nothing_in z (others_changed c x path) (select_in (λ (k : ℕ). differs x k && holds c k) z path i (both_hold z.0 (eqb→eq z.0 y u))) e)))
  where
    both_hold : (k : ℕ) → k ≡ y → T (differs x k && holds c k)
    both_hold k q = lib.Ieee.Fits.and_i (differs x k) (holds c k) (lib.Dec.not_T (eqb k x) (λ u. n (sym q ∙ eqb→eq k x u)))
        (subst (λ (m : ℕ). T (holds c m)) (sym q) h)

-- the next edge is the only one of its open constraints
pub none_but_next : (c : Constraint) (y : ℕ) (s : Bool) (path : List Change) → select (holds c) path ≡ []
    → others_changed c y (path ++ (y, s) ∷ []) ≡ []
none_but_next c y s path e =
    select_none (λ (k : ℕ). differs y k && holds c k) (path ++ (y, s) ∷ []) (λ z i t. elim (in_split z path ((y, s) ∷ []) i) [
      | inl j ↦ nothing_in z (select (holds c) path) (select_in (holds c) z path j (lib.Ieee.Fits.and_r (differs y z.0) (holds c z.0) t)) e
      | inr (inl q) ↦ clash (eqb z.0 y) (subst (λ (w : Change). T (eqb w.0 y)) (sym q) (eqb_refl y))
          (lib.Ieee.Fits.and_l (differs y z.0) (holds c z.0) t)
      | inr (inr q) ↦ absurd q
    ])

-- ---- which paths are complete

used_or : (b : Bool) → (b ≡ false → ⊥) → T b
used_or true f = tt
used_or false f = f refl

-- no constraint of a changed edge is unused
pub all_used : (g : List Constraint) (used : List Bool) (path : List Change)
    → ((w : Change) (j : ℕ) → In w path → In j (incidence g w.0) → is_used used j ≡ false → ⊥) → path_is_complete g used path ≡ true
all_used g used path f = T_true (path_is_complete g used path)
    (every (λ (z : Change). all (is_used used) (incidence g z.0)) path
    (λ w m. every (is_used used) (incidence g w.0) (λ j k. used_or (is_used used j) (f w j m k))))

-- a chain that ends at an edge with the one constraint i
pub chain_complete : (g : List Constraint) (used : List Bool) (path : List Change) (z : Change) (i : ℕ)
    → ((j : ℕ) → is_used used j ≡ false → j ≢ no_constraint → select (holds (constraint g j)) path ≡ [])
    → ((j y : ℕ) → T (holds (constraint g j) y) → j < no_constraint) → incidence g z.0 ≡ i ∷ [] → is_used used i ≡ true
    → path_is_complete g used (path ++ z ∷ []) ≡ true
chain_complete g used path z i away few one u =
    all_used g used (path ++ z ∷ []) (λ w j m k v. elim (in_split w path (z ∷ []) m) [
      | inl a ↦ nothing_in w (select (holds (constraint g j)) path) (select_in (holds (constraint g j)) w path a (incidence→holds g j w.0 k))
          (away j v (λ q. let b = few j w.0 (incidence→holds g j w.0 k) in omega (arith, b, q)))
      | inr (inl a) ↦ end j v (subst (λ (l : List ℕ). In j l) one (subst (λ (y : Change). In j (incidence g y.0)) a k))
      | inr (inr a) ↦ absurd a
    ])
  where
    end : (j : ℕ) → is_used used j ≡ false → In j (i ∷ []) → ⊥
    end j v (inl q) = true≢false (sym u ∙ ap (is_used used) (sym q) ∙ v)
    end j v (inr q) = absurd q

-- ---- what is recorded

pub record_incomplete : (g : List Constraint) (used : List Bool) (path : List Change) (t : Float) (st : State) → path_is_complete g used path ≡ false
    → st ≡ record_path g used path t st
unfolding record_path
record_incomplete g used path t st e = sym (ap (λ (b : Bool). cond (lt t (sub binary64 st.kept eps) && b) (keep_reading t path) skip st) e
    ∙ go (lt t (sub binary64 st.kept eps)))
  where
    go : (a : Bool) → cond (a && false) (keep_reading t path) skip st ≡ st
    go true = refl
    go false = refl

pub record_high : (g : List Constraint) (used : List Bool) (path : List Change) (t : Float) (st : State) → lt t (sub binary64 st.kept eps) ≡ false
    → st ≡ record_path g used path t st
unfolding record_path
record_high g used path t st e = sym (ap (λ (b : Bool). cond (b && path_is_complete g used path) (keep_reading t path) skip st) e)

pub record_kept : (g : List Constraint) (used : List Bool) (path : List Change) (t : Float) (st : State) → lt t (sub binary64 st.kept eps) ≡ true
    → path_is_complete g used path ≡ true → keep_reading t path st ≡ record_path g used path t st
unfolding record_path
record_kept g used path t st e e' = sym (ap (λ (b : Bool). cond (b && path_is_complete g used path) (keep_reading t path) skip st) e
    ∙ ap (λ (b : Bool). cond b (keep_reading t path) skip st) e')

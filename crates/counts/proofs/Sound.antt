-- What the search keeps is a reading of a unit move, with that cost.
--
-- Claim (`sound_dfs`): on a path that is in order, the search leaves a good state good. A state is good (`Good`) if nothing is kept yet, or if what
-- is kept is a reading and the kept cost is its cost.
-- What it is for a path to be in order is `Way`: it begins at the start, no edge comes twice, no count goes below 0, neighbours share a constraint,
-- the cost so far is the path's own; and, the heart of it, each used constraint is settled: it holds no edge of the path, or just two, which
-- balance. A single edge with nothing used is in order. From there the search can do three things.
-- * It steps from the last edge x over an unused constraint i to z (`onward`). It does that only where i holds no changed edge but x, and z is a
--   partner of x in i. So i, used from now on, holds just x and z, and partners balance (`partner_balances`). The constraints that were used before do
--   not hold z, and z is not on the path: `may_step` asked both. So they hold what they held.
-- * It closes a loop (`closed`): i holds one changed edge besides x, that is the start, and the two balance. So i may be called used, on the same path.
-- * It records the path (`sound_record_path`), if that is complete: every constraint of every changed edge is used. Then a constraint that holds a
--   changed edge is a used one and holds just two, which balance; an unused one holds none; and edges that are neighbour to neighbour
--   joined are all joined (`linked→joined`). That is a unit move, and the path reads it (`finished`).
-- All else is acts in a row, each of which leaves a good state good (`sound_each`); `sound_dfs` puts them together, by induction on its number. Of the
-- regions only this is used: edges have counts (`Inside`), and none is on both sides of a constraint (`OneSided`), so that a partner's sign fits the
-- one side that it is on. Assumes nothing.
use mathlib.Core.Logic.{◌≢◌, inl, inr}
use mathlib.Core.Path.{◌≡◌, refl, sym, ap, ◌∙◌}
use mathlib.Core.Bool.{Bool, true, false, not, ◌&&◌}
use mathlib.Core.List.{List, [], ◌∷◌, ◌++◌, append-nil}
use Prim.Native.Nat.{ℕ, zero, suc, ◌<◌}
use native.Mathlib.Decide.{ℕ_discrete}
use native.Mathlib.Omega.{arith}
use lib.ListN.{length, set}
use lib.Dec.{T, leb, ltb, eqb, eqb→eq, not_T}
use lib.Ieee.{Float, inf, add, sub, lt, binary64}
use lib.Ieee.Fits.{and_i, and_l, and_r}
use Rattle.base.specs.Lists.{member, any, all, each, Distinct, In, differs}
use Rattle.counts.specs.Move.{Change, select, edges, balances, Settled, share, Linked, cost_from, cost, is_allowed, Joined, same, next, Reading}
use Rattle.regions.specs.Region.{Constraint, constraint, holds, incidence}
use Rattle.counts.specs.Search.{partners, others_changed, eps, State, Act, skip, turned_back, entered, record_path, keep_reading, path_is_complete, Go}
use Rattle.counts.specs.Search.{try_step, visit_by, visit, enter_by, enter, unused, dfs, may_step, is_used}
use Rattle.counts.proofs.search.Acts.{by_test}
use Rattle.base.proofs.BoolLaws.{by_cases, clash, eq→eqb, ne→differs, differs→ne, T_true}
use Rattle.base.proofs.ListLaws.{member→in, in→member, in_left, in_snoc, filter_in, none_out, every, every_in}
use Rattle.counts.proofs.MoveLaws.{held, select_yes, select_no, select_append, in_select, select_none, edges_in, edge_of, earlier_differs, distinct_snoc}
use Rattle.counts.proofs.MoveLaws.{Apart, partner_holds, partner_balances, unlink, join, joined_back}
use Rattle.regions.proofs.region.Constraints.{holds→incidence, incidence→holds}
use Rattle.counts.proofs.search.Used.{used_before}

-- ---- what the accepted regions give
-- no edge on both sides of a constraint
abbrev pub OneSided : List Constraint → Type 0
OneSided g = (i : ℕ) → Apart (constraint g i)

-- every edge is below n
abbrev pub Inside : List Constraint → ℕ → Type 0
Inside g n = (i x : ℕ) → T (holds (constraint g i) x) → T (ltb x n)

-- ---- neighbours that share a constraint join them all
from_first : (g : List Constraint) (l : List ℕ) (a : Change) (r : List Change) → Linked g (a ∷ r) → ((z : Change) → In z (a ∷ r) → T (member z.0 l))
    → (v : Change) → In v (a ∷ r) → Joined g l a.0 v.0
from_first g l a [] k m v (inl q) = rw q (same a.0)
from_first g l a [] k m v (inr j) = absurd j
from_first g l a (b ∷ r) k m v (inl q) = rw q (same a.0)
from_first g l a (b ∷ r) k m v (inr j) =
    join (next a.0 a.0 b.0 (same a.0) (m b (inr (inl refl))) k.0) (from_first g l b r k.1 (λ z i. m z (inr i)) v j)

linked→joined : (g : List Constraint) (r : List Change) → Linked g r → (x y : ℕ) → T (member x (edges r)) → T (member y (edges r)) → Joined g (edges r) x y
linked→joined g [] k x y tx ty = absurd tx
linked→joined g (a ∷ r) k x y tx ty = join (joined_back (changed a (inl refl)) (from x tx)) (from y ty)
  where
    changed : (z : Change) → In z (a ∷ r) → T (member z.0 (edges (a ∷ r)))
    changed z i = in→member z.0 (edges (a ∷ r)) (edges_in z (a ∷ r) i)

    from : (y : ℕ) → T (member y (edges (a ∷ r))) → Joined g (edges (a ∷ r)) a.0 y
    from y t = let v = edge_of y (a ∷ r) (member→in y (edges (a ∷ r)) t) in rw v.2 at (from_first g (edges (a ∷ r)) a r k changed v.0 v.1)

-- ---- one more edge at the end
linked_snoc : (g : List Constraint) (pre : List Change) (x z : Change) → Linked g (pre ++ x ∷ []) → T (share g x.0 z.0) → Linked g ((pre ++ x ∷ []) ++ z ∷ [])
linked_snoc g [] x z l s = (s, tt)
linked_snoc g (a ∷ []) x z l s = (l.0, linked_snoc g [] x z l.1 s)
linked_snoc g (a ∷ b ∷ pre) x z l s = (l.0, linked_snoc g (b ∷ pre) x z l.1 s)

plus_snoc : (edge_cost : ℕ → Bool → Float) (t : Float) (r : List Change) (z : Change)
    → cost_from edge_cost t (r ++ z ∷ []) ≡ add binary64 (cost_from edge_cost t r) (edge_cost z.0 z.1)
plus_snoc edge_cost t [] z = refl
plus_snoc edge_cost t (a ∷ r) z = plus_snoc edge_cost (add binary64 t (edge_cost a.0 a.1)) r z

cost_snoc : (edge_cost : ℕ → Bool → Float) (pre : List Change) (x z : Change)
    → cost edge_cost ((pre ++ x ∷ []) ++ z ∷ []) ≡ add binary64 (cost edge_cost (pre ++ x ∷ [])) (edge_cost z.0 z.1)
cost_snoc edge_cost [] x z = refl
cost_snoc edge_cost (a ∷ pre) x z = plus_snoc edge_cost (edge_cost a.0 a.1) (pre ++ x ∷ []) z

-- the changed edges of a constraint are the others and x
others_are : (c : Constraint) (pre : List Change) (x : Change) → ((w : Change) → In w pre → w.0 ≢ x.0) → T (holds c x.0)
    → select (holds c) (pre ++ x ∷ []) ≡ others_changed c x.0 (pre ++ x ∷ []) ++ x ∷ []
others_are c pre x n hx =
    rw (
      select_append (holds c) pre (x ∷ []),
      select_yes (holds c) x [] hx,
      select_append other pre (x ∷ []),
      select_no other x [] (not_T (other x.0) (λ t. differs→ne x.0 x.0 (and_l (differs x.0 x.0) (holds c x.0) t) refl)),
      append-nil,
      same_select pre n,
    )
  where
    other : ℕ → Bool
    other e = differs x.0 e && holds c e

    same_select : (l : List Change) → ((w : Change) → In w l → w.0 ≢ x.0) → select other l ≡ select (holds c) l
    same_select [] m = refl
    same_select (w ∷ l) m = rw (T_true (differs x.0 w.0) (ne→differs x.0 w.0 (m w (inl refl))), same_select l (λ v i. m v (inr i)))

pos_snoc : (pre : List Change) (x : Change) → 0 < length (pre ++ x ∷ [])
pos_snoc [] x = omega arith
pos_snoc (a ∷ pre) x = omega arith

-- ---- the search
module _ (g : List Constraint) (edge_cost : ℕ → Bool → Float) (counts : List ℕ) (limit : ℕ) (x0 : ℕ) (s0 : Bool) (sided : OneSided g) (inside : Inside g (length counts)) where
  -- nothing kept, or a reading with its cost
  pub data Good (st : State) : Type 0 where
    empty : st.kept ≡ inf false → st.best ≡ [] → Good st
    reading : Reading g counts st.best → cost edge_cost st.best ≡ st.kept → Good st

  -- what leaves a good state good
  abbrev pub Sound : Act → Type 0
  Sound f = (st : State) → Good st → Good (f st)

  sound_each : {A : Type 0} (f : A → Act) (l : List A) → ((a : A) → In a l → Sound (f a)) → Sound (each f l)
  sound_each f [] h st k = k
  sound_each f (a ∷ l) h st k = sound_each f l (λ b i. h b (inr i)) (f a st) (h a (inl refl) st k)

  good_same : {st : State} (st' : State) → st.kept ≡ st'.kept → st.best ≡ st'.best → Good st → Good st'
  good_same st' p q (empty a b) = empty (sym p ∙ a) (sym q ∙ b)
  good_same st' p q (reading r c) = reading (rw q at r) (rw (← q, ← p) c)

  -- the path on which the search stands, x its last edge
  pub record Way (used : List Bool) (pre : List Change) (x : Change) (t : Float) : Type 0 where
    pub begins : In (x0, s0) (pre ++ x ∷ [])
    pub first : (w : Change) → In w (pre ++ x ∷ []) → w.0 ≡ x0 → w ≡ (x0, s0)
    pub distinct : Distinct (edges (pre ++ x ∷ []))
    pub there : (w : Change) → In w (pre ++ x ∷ []) → T (ltb w.0 (length counts))
    pub cans : (w : Change) → In w (pre ++ x ∷ []) → T (is_allowed counts w.0 w.1)
    pub linked : Linked g (pre ++ x ∷ [])
    pub settled : (i : ℕ) → T (is_used used i) → Settled (constraint g i) (held g i (pre ++ x ∷ []))
    pub priced : cost edge_cost (pre ++ x ∷ []) ≡ t

  -- what is sound wherever it goes on from a path that is in order
  abbrev pub SoundGo : Go → Type 0
  SoundGo go = (used : List Bool) (pre : List Change) (x : Change) (t : Float) → Way used pre x t → Sound (go used (pre ++ x ∷ []) x.0 x.1 t)

  module _ {used : List Bool} {pre : List Change} {x : Change} {t : Float} (w : Way used pre x t) where
    -- a complete path is a reading
    finished : T (path_is_complete g used (pre ++ x ∷ [])) → Reading g counts (pre ++ x ∷ [])
    finished c =
        record {
          move =
              record {
                some = pos_snoc pre x;
                distinct = w.distinct;
                there = every (λ (z : Change). ltb z.0 (length counts)) (pre ++ x ∷ []) w.there;
                down = every (λ (z : Change). is_allowed counts z.0 z.1) (pre ++ x ∷ []) w.cans;
                two = λ i. by_cases (is_used used i) (w.settled i) (λ n.
                    rw (select_none (holds (constraint g i)) (pre ++ x ∷ []) (λ z m h. clash (is_used used i) (all_used z m i h) n)) tt);
                joined = linked→joined g (pre ++ x ∷ []) w.linked;
              };
          linked = w.linked;
        }
      where
        all_used : (z : Change) → In z (pre ++ x ∷ []) → (i : ℕ) → T (holds (constraint g i) z.0) → T (is_used used i)
        all_used z m i h =
            let u = every_in (λ (z : Change). all (is_used used) (incidence g z.0)) (pre ++ x ∷ []) c z m in
            every_in (is_used used) (incidence g z.0) u i (holds→incidence g i z.0 h)

    sound_record_path : Sound (record_path g used (pre ++ x ∷ []) t)
    unfolding record_path
    sound_record_path st h =
        by_test Good (lt t (sub binary64 st.kept eps) && path_is_complete g used (pre ++ x ∷ [])) (keep_reading t (pre ++ x ∷ [])) skip st
        (λ b. reading (finished (and_r (lt t (sub binary64 st.kept eps)) _ b)) w.priced)
        (λ b. h)

    -- ---- a constraint i of the last edge is used
    module _ (i : ℕ) (hx : T (holds (constraint g i) x.0)) where
      holds_others : held g i (pre ++ x ∷ []) ≡ others_changed (constraint g i) x.0 (pre ++ x ∷ []) ++ x ∷ []
      holds_others = others_are (constraint g i) pre x (earlier_differs pre x [] w.distinct) hx

      -- one more edge, over the constraint i
      onward : (z : Change) → others_changed (constraint g i) x.0 (pre ++ x ∷ []) ≡ [] → In z (partners (constraint g i) x.0 x.1)
          → T (may_step g edge_cost (is_allowed counts) limit x0 s0 (set used i true) (pre ++ x ∷ []) i z)
          → Way (set used i true) (pre ++ x ∷ []) z (add binary64 t (edge_cost z.0 z.1))
      onward z o p m =
          record {
            begins = in_left (x0, s0) (pre ++ x ∷ []) (z ∷ []) w.begins;
            first = λ v k e. elim (in_snoc v (pre ++ x ∷ []) z k) [
              | inl a ↦ w.first v a e
              | inr q ↦ absurd (new (x0, s0) w.begins (sym e ∙ ap (λ (k : Change). k.0) q))
            ];
            distinct = distinct_snoc (pre ++ x ∷ []) z w.distinct new;
            there = λ v k. elim (in_snoc v (pre ++ x ∷ []) z k) [ inl a ↦ w.there v a | inr q ↦ rw q (inside i z.0 hz) ];
            cans = λ v k. elim (in_snoc v (pre ++ x ∷ []) z k) [ inl a ↦ w.cans v a | inr q ↦ rw q (and_r is_open _ m2) ];
            linked = linked_snoc g pre x z w.linked (unlink g i x.0 z.0 hx hz);
            settled = λ j u. elim (ℕ_discrete j i) [
              | yes e ↦ rw (e, both) (partner_balances (constraint g i) x z (sided i) p)
              | no n ↦ rw (as_before j n u) (w.settled j (used_before used i j n u))
            ];
            priced = rw (cost_snoc, w.priced);
          }
        where
          hz : T (holds (constraint g i) z.0)
          hz = partner_holds (constraint g i) x.0 x.1 z p

          -- what `may_step` asked
          is_new : Bool
          is_new = not (any (λ (v : Change). eqb v.0 z.0) (pre ++ x ∷ []))

          is_open : Bool
          is_open = not (any (λ (j : ℕ). differs i j && is_used (set used i true) j) (incidence g z.0))

          m2 : T (is_open && is_allowed counts z.0 z.1)
          m2 = and_r is_new _ m

          new : (v : Change) → In v (pre ++ x ∷ []) → v.0 ≢ z.0
          new v k e = none_out (λ (v : Change). eqb v.0 z.0) (pre ++ x ∷ []) (and_l is_new _ m) v k (eq→eqb v.0 z.0 e)

          not_held : (j : ℕ) → j ≢ i → T (is_used (set used i true) j) → T (holds (constraint g j) z.0) → ⊥
          not_held j n u h =
              none_out (λ (j : ℕ). differs i j && is_used (set used i true) j) (incidence g z.0) (and_l is_open _ m2) j
              (holds→incidence g j z.0 h) (and_i (differs i j) (is_used (set used i true) j) (ne→differs i j n) u)

          both : held g i ((pre ++ x ∷ []) ++ z ∷ []) ≡ x ∷ z ∷ []
          both = rw (select_append (holds (constraint g i)) (pre ++ x ∷ []) (z ∷ []), holds_others, o, select_yes (holds (constraint g i)) z [] hz)

          as_before : (j : ℕ) → j ≢ i → T (is_used (set used i true) j) → held g j ((pre ++ x ∷ []) ++ z ∷ []) ≡ held g j (pre ++ x ∷ [])
          as_before j n u =
              let h = not_T (holds (constraint g j) z.0) (not_held j n u) in
              rw (select_append (holds (constraint g j)) (pre ++ x ∷ []) (z ∷ []), select_no (holds (constraint g j)) z [] h, append-nil)

      -- a loop closed over the constraint i
      closed : (v : Change) → others_changed (constraint g i) x.0 (pre ++ x ∷ []) ≡ v ∷ [] → v.0 ≡ x0 → T (balances (constraint g i) (x0, s0) x)
          → Way (set used i true) pre x t
      closed v o e b =
          record {
            begins = w.begins;
            first = w.first;
            distinct = w.distinct;
            there = w.there;
            cans = w.cans;
            linked = w.linked;
            settled = λ j u. elim (ℕ_discrete j i) [ yes e ↦ rw (e, holds_others, o, is_first) b | no n ↦ w.settled j (used_before used i j n u) ];
            priced = w.priced;
          }
        where
          is_first : v ≡ (x0, s0)
          is_first = w.first v (in_select (λ (y : ℕ). differs x.0 y && holds (constraint g i) y) v (pre ++ x ∷ []) (rw o (inl refl))).0 e

  -- ---- from x on, if what goes on one level down is sound
  module _ (go : Go) (sound_go : SoundGo go) {used : List Bool} {pre : List Change} {x : Change} {t : Float} (w : Way used pre x t) where
    sound_try_step : (i : ℕ) → T (holds (constraint g i) x.0) → others_changed (constraint g i) x.0 (pre ++ x ∷ []) ≡ []
        → (z : Change) → In z (partners (constraint g i) x.0 x.1)
        → Sound (try_step g edge_cost (is_allowed counts) limit x0 s0 go (set used i true) (pre ++ x ∷ []) t i z)
    unfolding try_step
    sound_try_step i hx o z p st h =
        by_test Good (may_step g edge_cost (is_allowed counts) limit x0 s0 (set used i true) (pre ++ x ∷ []) i z) _ skip st
        (λ b. sound_go _ _ _ _ (onward w i hx z o p b) st h)
        (λ b. h)

    sound_visit_by : (i : ℕ) → T (holds (constraint g i) x.0) → (os : List Change) → others_changed (constraint g i) x.0 (pre ++ x ∷ []) ≡ os
        → Sound (visit_by g edge_cost (is_allowed counts) limit x0 s0 go used (pre ++ x ∷ []) x.0 x.1 t i os)
    sound_visit_by i hx [] o st h = sound_each _ (partners (constraint g i) x.0 x.1) (sound_try_step i hx o) st h
    sound_visit_by i hx (v ∷ []) o st h =
        let first = eqb v.0 x0 in
        let balanced = balances (constraint g i) (x0, s0) x in
        by_test Good (first && balanced) _ skip st
        (λ b. sound_record_path (closed w i hx v o (eqb→eq v.0 x0 (and_l first balanced b)) (and_r first balanced b)) st h)
        (λ b. h)
    sound_visit_by i hx (v ∷ v' ∷ r) o st h = h

    sound_enter_by : (is : List ℕ) → ((i : ℕ) → In i is → T (holds (constraint g i) x.0))
        → Sound (enter_by g edge_cost (is_allowed counts) limit x0 s0 go used (pre ++ x ∷ []) x.0 x.1 t is)
    unfolding visit
    sound_enter_by [] hs = sound_record_path w
    sound_enter_by (i ∷ is) hs = sound_each _ (i ∷ is) (λ j m. sound_visit_by j (hs j m) (others_changed (constraint g j) x.0 (pre ++ x ∷ [])) refl)

  pub sound_dfs : (k : ℕ) → SoundGo (dfs g edge_cost (is_allowed counts) limit x0 s0 k)
  unfolding dfs enter
  sound_dfs zero used pre x t w st h = h
  sound_dfs (suc k) used pre x t w st h =
      by_test Good (leb limit st.expansions) turned_back _ st
      (λ b. good_same (turned_back st) refl refl h)
      (λ b. sound_enter_by (dfs g edge_cost (is_allowed counts) limit x0 s0 k) (sound_dfs k) w (unused g edge_cost (is_allowed counts) limit x0 s0 used x.0)
      (λ i m. incidence→holds g i x.0 (filter_in (λ (n : ℕ). not (is_used used n)) i (incidence g x.0) m).0) (entered st) (good_same (entered st) refl refl h))

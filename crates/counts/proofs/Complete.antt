-- The search from a reading's first edge comes to that reading.
--
-- Claim (`hits_run`): if some reading that begins with the start costs less than -2E and the search is not cut, then the kept cost ends below -E. It
-- need not be this reading that is kept.
-- Walk along the reading beside the search: the first edge, then `mid`, then x, where the search stands, then what is ahead. `Here` says how the
-- marks lie along it: a used constraint holds nothing that is ahead, an unused one nothing of `mid`, and x was entered by a used one.
-- * A step (`hits_step`). x and the next edge z share a constraint i (`link`), and since a constraint holds just two edges of a move, i holds these
--   two of the reading and no other (`pair`). It is unused, as z is ahead (`open_ahead`). So the search visits i, finds no changed edge there but x
--   (`alone`) and tries every partner of x, of which z is one, as it balances x (`in_partners`). And z passes the test (`steps`): it is new, as a
--   reading's edges are distinct, and no other constraint of it is used, as it is ahead. One edge further all is as before (`next`). The one thing to
--   see is that no unused constraint holds x, which is behind now: it would be the third of x, after the one that x was entered by and i
--   (`no_third`).
-- * The end (`hits_end`). An unused constraint that still holds an edge of the reading can hold but the first and the last, so it holds both
--   (`open_last`, `closes`). If x has no unused one, then none is left, and the path is complete. If it has one, the loop closes there, and x has
--   no third, so that the path is complete then. Either way it is recorded (`hits_record_path`, in search/Acts).
-- * The cost. If the kept cost is below -E at that point, it is low already. If not, a cost below -2E is below (kept - E), and is kept (`far_below`,
--   in floats): hence -2E, and not -E. What is low stays low, whatever else is tried (`Keeps`), and a search that is not cut in the end was not
--   cut on the way. So to hit a low cost at one visit, partner or start is to hit it in the whole row of them (`hits_each`).
-- `hits_run` makes the first step. (A reading of one edge has no constraint, which would hold that edge alone, and is complete at once.) The number
-- that `dfs` is counted down by lasts, since each step uses up an unused constraint (`free_set`). Of the regions only this is used: no edge is in
-- three constraints (`Thin`). Assumes nothing.
use mathlib.Core.Logic.{◌≢◌, inl, inr}
use mathlib.Core.Path.{◌≡◌, refl, sym, ap, ◌∙◌}
use mathlib.Core.Bool.{Bool, true, false, not, ◌&&◌, cond}
use mathlib.Core.List.{List, [], ◌∷◌, ◌++◌, append-nil}
use Prim.Native.Nat.{ℕ, zero, suc, ◌≤◌}
use native.Mathlib.Decide.{ℕ_discrete}
use native.Mathlib.Omega.{arith}
use lib.ListN.{length, set, replicate}
use lib.Seq.{append_snoc}
use lib.Dec.{T, leb, eqb, eqb→eq, not_T}
use lib.Ieee.{Float, add, lt, neg, binary64}
use lib.Ieee.Fits.{and_i, and_l, and_r}
use Rattle.base.specs.Lists.{any, all, Distinct, In, differs}
use Rattle.counts.specs.Move.{Change, select, edges, balances, Settled, Linked, cost_from, cost}
use Rattle.regions.specs.Region.{Constraint, constraint, holds, incidence}
use Rattle.counts.specs.Search.{partners, others_changed, Act, skip, turned_back, entered, Go, try_step, visit, enter_by, enter, unused, dfs, may_step}
use Rattle.counts.specs.Search.{path_is_complete, is_used, two_eps, free}
use Rattle.counts.proofs.search.Acts.{by_test, Low, Hits, KeepsGo, hits_each, hits_record_path, keeps_try_step, keeps_visit, keeps_dfs}
use Rattle.base.proofs.BoolLaws.{by_cases, by_contradiction, clash, eq→eqb, ne→differs, differs→ne, T_true}
use Rattle.base.proofs.ListLaws.{in_right, in_snoc, in_filter, filter_in, not_any, every, no_elements}
use Rattle.counts.proofs.MoveLaws.{held, select_yes, select_no, select_append, select_none, none_selected, settled_mid, earlier_differs, in_partners, link}
use Rattle.regions.proofs.region.Constraints.{holds→incidence, incidence→holds}
use Rattle.counts.proofs.search.Used.{set_used, still_used, used_before, free_set, free_replicate}

-- no edge is in three constraints
abbrev pub Thin : List Constraint → Type 0
Thin g = (x i j k : ℕ) → T (holds (constraint g i) x) → T (holds (constraint g j) x) → T (holds (constraint g k) x) → i ≢ j → j ≢ k → i ≢ k → ⊥

hits_cond : (b : Bool) (f : Act) → T b → Hits f → Hits (cond b f skip)
hits_cond b f t h = rw (T_true b t) h

-- ---- marks
-- a used constraint and an unused one are two
used_apart : (used : List Bool) (i j : ℕ) → T (is_used used i) → T (not (is_used used j)) → i ≢ j
used_apart used i j t u e = clash (is_used used j) (rw e at t) u

open_before : (used : List Bool) (i k : ℕ) → T (not (is_used (set used i true) k)) → T (not (is_used used k))
open_before used i k t = not_T (is_used used k) (λ u. clash (is_used (set used i true) k) (still_used used i k u) t)

open_other : (used : List Bool) (i k : ℕ) → T (not (is_used (set used i true) k)) → i ≢ k
open_other used i k t = used_apart (set used i true) i k (set_used used i) t

pub fresh_used : (g : List Constraint) (i x : ℕ) → T (is_used (replicate (length g) false) i) → T (holds (constraint g i) x) → ⊥
fresh_used [] i x t h = h
fresh_used (c ∷ g) zero x t h = t
fresh_used (c ∷ g) (suc i) x t h = fresh_used g i x t h

-- ---- what constraints hold of a reading
module _ (g : List Constraint) where
  -- no other changed edge of the path in the constraint
  alone : (i : ℕ) (P : List Change) (x : Change) → held g i P ≡ [] → others_changed (constraint g i) x.0 (P ++ x ∷ []) ≡ []
  alone i P x e =
      select_none (λ (y : ℕ). differs x.0 y && holds (constraint g i) y) (P ++ x ∷ []) (λ w m t.
      let other = differs x.0 w.0 in
      let here = holds (constraint g i) w.0 in
      elim (in_snoc w P x m) [
        | inl a ↦ none_selected (holds (constraint g i)) P e w a (and_r other here t)
        | inr q ↦ differs→ne x.0 w.0 (and_l other here t) (ap (λ (k : Change). k.0) q)
      ])

  -- a constraint of two neighbours holds no more of the reading
  pair : (P : List Change) (x z : Change) (Q : List Change) (i : ℕ) → Settled (constraint g i) (held g i (P ++ x ∷ z ∷ Q))
      → T (holds (constraint g i) x.0) → T (holds (constraint g i) z.0)
      → (held g i P ≡ []) × (held g i Q ≡ []) × T (balances (constraint g i) x z)
  pair P x z Q i f hx hz = settled_mid (constraint g i) (held g i P) x z (held g i Q) (rw (select_append, select_yes, select_yes) at f)

  -- where a constraint holds nothing of `mid`, it holds what it does of the first edge and of the rest
  first_alone : (a : Change) (mid rest : List Change) (i : ℕ) → held g i mid ≡ [] → held g i ((a ∷ mid) ++ rest) ≡ held g i (a ∷ []) ++ held g i rest
  first_alone a mid rest i e = rw (select_append (holds (constraint g i)) (a ∷ mid) rest, select_append (holds (constraint g i)) (a ∷ []) mid, e, append-nil)

  -- what holds an edge that is ahead is unused
  open_ahead : (used : List Bool) (z : Change) (suf : List Change) (i : ℕ) → ((j : ℕ) → T (is_used used j) → held g j (z ∷ suf) ≡ [])
      → T (holds (constraint g i) z.0) → T (not (is_used used i))
  open_ahead used z suf i u hz = not_T (is_used used i) (λ t. none_selected (holds (constraint g i)) (z ∷ suf) (u i t) z (inl refl) hz)

  -- what is used after a step over i to z holds nothing further ahead
  ahead_next : (used : List Bool) (z : Change) (suf : List Change) (i : ℕ) → ((j : ℕ) → T (is_used used j) → held g j (z ∷ suf) ≡ [])
      → held g i suf ≡ [] → (j : ℕ) → T (is_used (set used i true) j) → held g j suf ≡ []
  ahead_next used z suf i u e j t = elim (ℕ_discrete j i) [
    | yes q ↦ rw q e
    | no n ↦ select_none (holds (constraint g j)) suf (λ w m. none_selected (holds (constraint g j)) (z ∷ suf) (u j (used_before used i j n t)) w (inr m))
  ]

  -- a path all of whose constraints are used is complete
  complete : (used : List Bool) (path : List Change) → ((w : Change) → In w path → (i : ℕ) → T (holds (constraint g i) w.0) → T (is_used used i))
      → T (path_is_complete g used path)
  complete used path h =
      every (λ (z : Change). all (is_used used) (incidence g z.0)) path (λ w m.
      every (is_used used) (incidence g w.0) (λ i k. h w m i (incidence→holds g i w.0 k)))

module _ (g : List Constraint) (edge_cost : ℕ → Bool → Float) (allowed : ℕ → Bool → Bool) (limit : ℕ) (x0 : ℕ) (s0 : Bool) where
  -- ---- one entry
  abbrev descend : ℕ → Go
  descend = dfs g edge_cost allowed limit x0 s0

  hits_enter : (go : Go) (used : List Bool) (path : List Change) (x : ℕ) (s : Bool) (t : Float)
      → Hits (enter_by g edge_cost allowed limit x0 s0 go used path x s t (unused g edge_cost allowed limit x0 s0 used x))
      → Hits (enter g edge_cost allowed limit x0 s0 go used path x s t)
  unfolding enter
  hits_enter go used path x s t h = record { hit = λ st r n. h.hit (entered st) (record { real = r.real }) n }

  hits_suc : (k : ℕ) (used : List Bool) (path : List Change) (x : ℕ) (s : Bool) (t : Float)
      → Hits (enter g edge_cost allowed limit x0 s0 (descend k) used path x s t) → Hits (descend (suc k) used path x s t)
  unfolding dfs
  hits_suc k used path x s t h =
      record { hit = λ st r. by_test (λ st'. T (not st'.cut) → Low st') (leb limit st.expansions) turned_back _ st (λ b n. absurd n) (λ b n. h.hit st r n) }

  -- at the end of a chain
  hits_complete : (k : ℕ) (used : List Bool) (path : List Change) (x : ℕ) (s : Bool) (t : Float) → unused g edge_cost allowed limit x0 s0 used x ≡ []
      → T (path_is_complete g used path) → T (lt t (neg two_eps)) → Hits (descend (suc k) used path x s t)
  hits_complete k used path x s t e c b = hits_suc k used path x s t (hits_enter (descend k) used path x s t (rw e (hits_record_path g used path t c b)))

  -- over an unused constraint of the last edge
  hits_enter_by : (go : Go) → KeepsGo go → (used : List Bool) (path : List Change) (x : ℕ) (s : Bool) (t : Float) (i : ℕ) (is : List ℕ)
      → In i is → Hits (visit g edge_cost allowed limit x0 s0 go used path x s t i) → Hits (enter_by g edge_cost allowed limit x0 s0 go used path x s t is)
  hits_enter_by go k used path x s t i [] m h = absurd m
  hits_enter_by go k used path x s t i (j ∷ js) m h = hits_each _ (keeps_visit g edge_cost allowed limit x0 s0 go k used path x s t) (j ∷ js) i m h

  hits_over : (k : ℕ) (used : List Bool) (path : List Change) (x : ℕ) (s : Bool) (t : Float) (i : ℕ) → T (holds (constraint g i) x) → T (not (is_used used i))
      → Hits (visit g edge_cost allowed limit x0 s0 (descend k) used path x s t i) → Hits (descend (suc k) used path x s t)
  hits_over k used path x s t i hx u h =
      let m = in_filter (λ (n : ℕ). not (is_used used n)) i (incidence g x) (holds→incidence g i x hx) u in
      hits_suc k used path x s t
      (hits_enter (descend k) used path x s t
      (hits_enter_by (descend k) (keeps_dfs g edge_cost allowed limit x0 s0 k) used path x s t i (unused g edge_cost allowed limit x0 s0 used x) m h))

  -- ---- closing a loop
  hits_close : (k : ℕ) (used : List Bool) (path : List Change) (x : Change) (t : Float) (i : ℕ) → T (holds (constraint g i) x.0) → T (not (is_used used i))
      → others_changed (constraint g i) x.0 path ≡ (x0, s0) ∷ [] → T (balances (constraint g i) (x0, s0) x)
      → T (path_is_complete g (set used i true) path) → T (lt t (neg two_eps)) → Hits (descend (suc k) used path x.0 x.1 t)
  unfolding visit
  hits_close k used path x t i hx u o v c b =
      hits_over k used path x.0 x.1 t i hx u
      (rw o (hits_cond (eqb x0 x0 && balances (constraint g i) (x0, s0) x) _ (and_i (eqb x0 x0) (balances (constraint g i) (x0, s0) x) (eq→eqb x0 x0 refl) v)
      (hits_record_path g (set used i true) path t c b)))

  -- ---- a step over the constraint i to z
  hits_visit : (go : Go) → KeepsGo go → (used : List Bool) (path : List Change) (x z : Change) (t : Float) (i : ℕ)
      → others_changed (constraint g i) x.0 path ≡ []
      → T (may_step g edge_cost allowed limit x0 s0 (set used i true) path i z)
      → In z (partners (constraint g i) x.0 x.1)
      → Hits (go (set used i true) (path ++ z ∷ []) z.0 z.1 (add binary64 t (edge_cost z.0 z.1)))
      → Hits (visit g edge_cost allowed limit x0 s0 go used path x.0 x.1 t i)
  unfolding visit try_step
  hits_visit go k used path x z t i o m p h =
      rw o (hits_each _ (keeps_try_step g edge_cost allowed limit x0 s0 go k (set used i true) path t i) (partners (constraint g i) x.0 x.1) z p
      (hits_cond (may_step g edge_cost allowed limit x0 s0 (set used i true) path i z) _ m h))

  -- the test of a step
  steps : (used : List Bool) (path : List Change) (z : Change) (rest : List Change) (i : ℕ)
      → Distinct (edges (path ++ z ∷ rest)) → ((j : ℕ) → T (is_used used j) → held g j (z ∷ rest) ≡ []) → T (allowed z.0 z.1)
      → T (may_step g edge_cost allowed limit x0 s0 (set used i true) path i z)
  steps used path z rest i d u c =
      and_i (not (any (λ (w : Change). eqb w.0 z.0) path)) _
      (not_any (λ (w : Change). eqb w.0 z.0) path (λ w m e. earlier_differs path z rest d w m (eqb→eq w.0 z.0 e)))
      (and_i (not (any (λ (j : ℕ). differs i j && is_used (set used i true) j) (incidence g z.0))) (allowed z.0 z.1)
      (not_any (λ (j : ℕ). differs i j && is_used (set used i true) j) (incidence g z.0) not_used) c)
    where
      not_used : (j : ℕ) → In j (incidence g z.0) → T (differs i j && is_used (set used i true) j) → ⊥
      not_used j m e =
          let other = and_l (differs i j) (is_used (set used i true) j) e in
          let before = used_before used i j (differs→ne i j other) (and_r (differs i j) (is_used (set used i true) j) e) in
          none_selected (holds (constraint g j)) (z ∷ rest) (u j before) z (inl refl) (incidence→holds g j z.0 m)

  -- from the last edge x of the path to z, which is next in the reading and shares i with x
  hits_step : (k : ℕ) (used : List Bool) (P : List Change) (x z : Change) (suf : List Change) (t : Float) (i : ℕ)
      → Settled (constraint g i) (held g i (P ++ x ∷ z ∷ suf)) → T (holds (constraint g i) x.0) → T (holds (constraint g i) z.0)
      → Distinct (edges (P ++ x ∷ z ∷ suf)) → ((j : ℕ) → T (is_used used j) → held g j (z ∷ suf) ≡ []) → T (allowed z.0 z.1)
      → Hits (descend k (set used i true) ((P ++ x ∷ []) ++ z ∷ []) z.0 z.1 (add binary64 t (edge_cost z.0 z.1)))
      → Hits (descend (suc k) used (P ++ x ∷ []) x.0 x.1 t)
  hits_step k used P x z suf t i two hx hz d ahead may h =
      let p = pair g P x z suf i two hx hz in
      let d' : Distinct (edges ((P ++ x ∷ []) ++ z ∷ suf)) = rw append_snoc d in
      let new : z.0 ≢ x.0 = λ q. earlier_differs (P ++ x ∷ []) z suf d' x (in_right x P (x ∷ []) (inl refl)) (sym q) in
      hits_over k used (P ++ x ∷ []) x.0 x.1 t i hx (open_ahead g used z suf i ahead hz)
      (hits_visit (descend k) (keeps_dfs g edge_cost allowed limit x0 s0 k) used (P ++ x ∷ []) x z t i
      (alone g i P x p.0) (steps used (P ++ x ∷ []) z suf i d' ahead may) (in_partners (constraint g i) x z hz hx new p.2) h)

  -- ---- on the way along a reading: the first edge, `mid`, then x, where the search stands, and what is still ahead
  record Here (used : List Bool) (mid : List Change) (x : Change) (suf : List Change) : Type 0 where
    two : (i : ℕ) → Settled (constraint g i) (held g i (((x0, s0) ∷ mid) ++ x ∷ suf))
    linked : Linked g (x ∷ suf)
    distinct : Distinct (edges (((x0, s0) ∷ mid) ++ x ∷ suf))
    cans : (z : Change) → In z suf → T (allowed z.0 z.1)
    ahead : (i : ℕ) → T (is_used used i) → held g i suf ≡ []
    behind : (i : ℕ) → T (not (is_used used i)) → held g i mid ≡ []
    came : (j : ℕ) × T (is_used used j) × T (holds (constraint g j) x.0)

  module _ (thin : Thin g) where
    -- x has no third constraint besides the one that it was entered by and i, which is used next
    no_third : {used : List Bool} {mid : List Change} {x : Change} {suf : List Change} → Here used mid x suf → (i k : ℕ)
        → T (not (is_used used i)) → T (holds (constraint g i) x.0) → T (not (is_used (set used i true) k)) → T (holds (constraint g k) x.0) → ⊥
    no_third {used} {x = x} h i k u hi n hk =
        let j = h.came in
        thin x.0 j.0 i k j.2 hi hk (used_apart used j.0 i j.1 u) (open_other used i k n) (used_apart used j.0 k j.1 (open_before used i k n))

    -- one edge further
    next : {used : List Bool} {mid : List Change} {x z : Change} {suf : List Change} → Here used mid x (z ∷ suf) → (i : ℕ)
        → T (holds (constraint g i) x.0) → T (holds (constraint g i) z.0)
        → Here (set used i true) (mid ++ x ∷ []) z suf
    next {used} {mid} {x} {z} {suf} h i hx hz =
        record {
          two = λ k. rw (append_snoc mid) (h.two k);
          linked = h.linked.1;
          distinct = rw (append_snoc mid) h.distinct;
          cans = λ w m. h.cans w (inr m);
          ahead = ahead_next g used z suf i h.ahead (pair g ((x0, s0) ∷ mid) x z suf i (h.two i) hx hz).1;
          behind = λ k t. select_none (holds (constraint g k)) (mid ++ x ∷ []) (λ w m hw.
              elim (in_snoc w mid x m) [
                | inl a ↦ none_selected (holds (constraint g k)) mid (h.behind k (open_before used i k t)) w a hw
                | inr q ↦ no_third h i k (open_ahead g used z suf i h.ahead hz) hx t (rw q at hw)
              ]);
          came = (i, set_used used i, hz);
        }

    -- ---- the end of the reading
    module _ {used : List Bool} {mid : List Change} {x : Change} (h : Here used mid x []) where
      -- an unused constraint that holds an edge of a whole reading holds the last one
      open_last : (i : ℕ) → T (not (is_used used i)) → (w : Change) → In w (((x0, s0) ∷ mid) ++ x ∷ []) → T (holds (constraint g i) w.0)
          → T (holds (constraint g i) x.0)
      open_last i u w m hw =
          by_contradiction (holds (constraint g i) x.0) (λ n.
          let e = rw (select_no (holds (constraint g i)) x [] n, append-nil) at (first_alone g (x0, s0) mid (x ∷ []) i (h.behind i u)) in
          by_cases (holds (constraint g i) x0)
          (λ y. rw (e, select_yes (holds (constraint g i)) (x0, s0) [] y) at (h.two i))
          (λ o. none_selected (holds (constraint g i)) (((x0, s0) ∷ mid) ++ x ∷ []) (e ∙ select_no (holds (constraint g i)) (x0, s0) [] o) w m hw))

      -- the constraint that closes a loop holds the first edge and the last, which balance
      closes : (i : ℕ) → T (not (is_used used i)) → T (holds (constraint g i) x.0) → T (holds (constraint g i) x0) × T (balances (constraint g i) (x0, s0) x)
      closes i u hx =
          let e = rw (select_yes (holds (constraint g i)) x [] hx) at (first_alone g (x0, s0) mid (x ∷ []) i (h.behind i u)) in
          by_cases (holds (constraint g i) x0) (λ y. (y, rw (e, select_yes) at (h.two i))) (λ o. absurd (rw (e, select_no) at (h.two i)))

      hits_end : (k : ℕ) (t : Float) → T (lt t (neg two_eps)) → Hits (descend (suc k) used (((x0, s0) ∷ mid) ++ x ∷ []) x.0 x.1 t)
      hits_end k t c = go (unused g edge_cost allowed limit x0 s0 used x.0) refl
        where
          path : List Change
          path = ((x0, s0) ∷ mid) ++ x ∷ []

          go : (is : List ℕ) → unused g edge_cost allowed limit x0 s0 used x.0 ≡ is → Hits (descend (suc k) used path x.0 x.1 t)
          go [] e =
              hits_complete k used path x.0 x.1 t e
              (complete g used path (λ w m i hi. by_contradiction (is_used used i) (λ n.
              rw e at (in_filter (λ (n : ℕ). not (is_used used n)) i (incidence g x.0) (holds→incidence g i x.0 (open_last i n w m hi)) n)))) c
          go (i ∷ is) e =
              let q = filter_in (λ (n : ℕ). not (is_used used n)) i (incidence g x.0) (rw e (inl refl)) in
              let hx = incidence→holds g i x.0 q.0 in
              let cl = closes i q.1 hx in
              let first-other = ne→differs x.0 x0 (earlier_differs ((x0, s0) ∷ mid) x [] h.distinct (x0, s0) (inl refl)) in
              let only_first : others_changed (constraint g i) x.0 path ≡ (x0, s0) ∷ [] =
              rw (T_true (differs x.0 x0) first-other, T_true (holds (constraint g i) x0) cl.0, alone g i mid x (h.behind i q.1)) in
              hits_close k used path x t i hx q.1 only_first cl.1
              (complete g (set used i true) path (λ w m j hj. by_contradiction (is_used (set used i true) j) (λ n.
              no_third h i j q.1 hx n (open_last j (open_before used i j n) w m hj)))) c

    -- ---- along the reading
    hits_dfs : (k : ℕ) (used : List Bool) (mid : List Change) (x : Change) (suf : List Change) (t : Float) → Here used mid x suf → free used ≤ k
        → T (lt (cost_from edge_cost t suf) (neg two_eps))
        → Hits (descend (suc k) used (((x0, s0) ∷ mid) ++ x ∷ []) x.0 x.1 t)
    hits_dfs k used mid x [] t h f c = hits_end h k t c
    hits_dfs zero used mid x (z ∷ suf) t h f c =
        let l = link g x.0 z.0 h.linked.0 in
        let e = free_set used l.0 (open_ahead g used z suf l.0 h.ahead l.2) in absurd (omega arith)
    hits_dfs (suc k) used mid x (z ∷ suf) t h f c =
        let l = link g x.0 z.0 h.linked.0 in
        let i = l.0 in
        let e = free_set used i (open_ahead g used z suf i h.ahead l.2) in
        hits_step (suc k) used ((x0, s0) ∷ mid) x z suf t i (h.two i) l.1 l.2 h.distinct h.ahead (h.cans z (inl refl))
        (hits_dfs k (set used i true) (mid ++ x ∷ []) z suf (add binary64 t (edge_cost z.0 z.1)) (next h i l.1 l.2) (omega arith) c)

    -- ---- from the start
    pub hits_run : (suf : List Change)
        → ((i : ℕ) → Settled (constraint g i) (select (holds (constraint g i)) ((x0, s0) ∷ suf))) → Linked g ((x0, s0) ∷ suf) → Distinct (edges ((x0, s0) ∷ suf))
        → ((z : Change) → In z suf → T (allowed z.0 z.1)) → T (lt (cost edge_cost ((x0, s0) ∷ suf)) (neg two_eps))
        → Hits (dfs g edge_cost allowed limit x0 s0 (suc (length g)) (replicate (length g) false) ((x0, s0) ∷ []) x0 s0 (edge_cost x0 s0))
    hits_run [] two lk dd cs c =
        hits_complete (length g) (replicate (length g) false) ((x0, s0) ∷ []) x0 s0 (edge_cost x0 s0)
        (no_elements _ (λ i m. bad i (incidence→holds g i x0 (filter_in (λ (n : ℕ). not (is_used (replicate (length g) false) n)) i (incidence g x0) m).0)))
        (complete g (replicate (length g) false) ((x0, s0) ∷ []) (λ w m i h. elim m [ inl q ↦ absurd (bad i (rw q at h)) | inr q ↦ absurd q ])) c
      where
        bad : (i : ℕ) → T (holds (constraint g i) x0) → ⊥
        bad i h = rw select_yes at (two i)
    hits_run (z ∷ suf) two lk dd cs c =
        let used = replicate (length g) false in
        let l = link g x0 z.0 lk.0 in
        let i = l.0 in
        let ahead : (j : ℕ) → T (is_used (replicate (length g) false) j) → held g j (z ∷ suf) ≡ [] =
        λ j t. select_none (holds (constraint g j)) (z ∷ suf) (λ w m hw. fresh_used g j w.0 t hw) in
        let e = free_set used i (open_ahead g used z suf i ahead l.2) in
        let t = add binary64 (edge_cost x0 s0) (edge_cost z.0 z.1) in
        hits_step (length g) used [] (x0, s0) z suf (edge_cost x0 s0) i (two i) l.1 l.2 dd ahead (cs z (inl refl))
        (rw (e ∙ free_replicate (length g)) at
        (hits_dfs (free (set used i true)) (set used i true) [] z suf t
        (record {
          two = two;
          linked = lk.1;
          distinct = dd;
          cans = λ w m. cs w (inr m);
          ahead = ahead_next g used z suf i ahead (pair g [] (x0, s0) z suf i (two i) l.1 l.2).1;
          behind = λ k t. refl;
          came = (i, set_used used i, l.2);
        })
        (omega arith) c))

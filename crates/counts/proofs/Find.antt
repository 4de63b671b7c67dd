-- `find_augmentation`: what it finds is a reading that costs less than -E; where it finds nothing and no search was cut, no reading costs
-- less than -2E. Assumes nothing.
use mathlib.Core.Logic.{inl, inr}
use mathlib.Core.Path.{◌≡◌, refl, ap}
use mathlib.Core.Bool.{Bool, true, false, not}
use mathlib.Core.List.{List, [], ◌∷◌}
use Prim.Native.Nat.{ℕ, zero, suc, ◌+◌, ◌<◌}
use native.Mathlib.Nat.{add-zero, zero-add, suc-add, add-suc}
use native.Mathlib.Omega.{arith}
use lib.ListN.{length, replicate}
use lib.Dec.{T, ltb, ltb→lt, lt→ltb}
use lib.Ieee.{Float, nan, fin, inf, add, sub, lt, neg, of_bits, binary64}
use lib.Ieee.Fits.{and_i, and_l}
use Rattle.base.specs.Lists.{each, In}
use Rattle.counts.specs.Move.{Change, is_allowed, cost, Reading}
use Rattle.regions.specs.Region.{Constraint, constraint, holds}
use Rattle.counts.specs.Round.{Found, improves, weigh, starts, nothing_found, try_start, find_augmentation}
use Rattle.counts.specs.Search.{eps, State, fresh, run, two_eps}
use Rattle.counts.proofs.Complete.{Thin, hits_run, fresh_used}
use Rattle.base.proofs.BoolLaws.{by_truth, nor_left, nor_right, T_true, true_T}
use Rattle.base.proofs.ListLaws.{every_in}
use Rattle.counts.proofs.MoveLaws.{select_none}
use Rattle.counts.proofs.Sound.{OneSided, Inside, Good, empty, reading, sound_dfs}

-- the starts
pub starts_below : (i n : ℕ) (z : Change) → In z (starts i n) → z.0 < i + n
starts_below i zero z k = absurd k
starts_below i (suc n) z (inl e) = rw e (omega arith)
starts_below i (suc n) z (inr (inl e)) = rw e (omega arith)
starts_below i (suc n) z (inr (inr k)) = rw (suc-add, ← add-suc) at (starts_below (suc i) n z k)

starts_in : (i n d : ℕ) (s : Bool) → d < n → In (i + d, s) (starts i n)
starts_in i zero d s h = absurd (omega arith)
starts_in i (suc n) zero true h = inl (ap (λ (m : ℕ). (m, true)) (add-zero i))
starts_in i (suc n) zero false h = inr (inl (ap (λ (m : ℕ). (m, false)) (add-zero i)))
starts_in i (suc n) (suc d) s h = inr (inr (rw (suc-add, ← add-suc) at (starts_in (suc i) n d s (omega arith))))

no_inf : T (lt (inf false) (neg eps)) → ⊥
unfolding lt neg of_bits
no_inf t = t

under_inf : (c : Float) → T (lt c (neg eps)) → T (lt c (sub binary64 (inf false) eps))
unfolding lt neg sub add of_bits
under_inf nan t = absurd t
under_inf (inf true) t = tt
under_inf (inf false) t = absurd t
under_inf (fin s m e) t = tt

improves_low : (kept t : Float) → improves kept t ≡ true → T (lt t (neg eps))
improves_low kept t e = and_l (lt t (neg eps)) (lt t (sub binary64 kept eps)) (true_T _ e)

module _ (g : List Constraint) (edge_cost : ℕ → Bool → Float) (counts : List ℕ) (limit : ℕ) (sided : OneSided g) (inside : Inside g (length counts)) where
  pub data Best (b : Found) : Type 0 where
    none : b.kept ≡ inf false → b.best ≡ [] → Best b
    some : Reading g counts b.best → cost edge_cost b.best ≡ b.kept → T (lt b.kept (neg eps)) → Best b

  -- the search from a start
  abbrev searched : ℕ → Bool → State
  searched = run g edge_cost (is_allowed counts) limit

  abbrev GoodFrom : ℕ → Bool → State → Type 0
  GoodFrom x0 s0 = Good g edge_cost counts limit x0 s0 sided inside

  sound_run : (x0 : ℕ) (s0 : Bool) → T (ltb x0 (length counts)) → T (is_allowed counts x0 s0) → GoodFrom x0 s0 (searched x0 s0)
  unfolding run
  sound_run x0 s0 b c =
      sound_dfs g edge_cost counts limit x0 s0 sided inside (suc (length g)) (replicate (length g) false) [] (x0, s0) (edge_cost x0 s0)
      (record {
        begins = inl refl;
        first = λ w i e. elim i [ inl q ↦ q | inr q ↦ absurd q ];
        distinct = (tt, tt);
        there = λ w i. elim i [ inl q ↦ rw q b | inr q ↦ absurd q ];
        cans = λ w i. elim i [ inl q ↦ rw q c | inr q ↦ absurd q ];
        linked = tt;
        settled = λ i u. rw (select_none (holds (constraint g i)) ((x0, s0) ∷ []) (λ w m h. fresh_used g i w.0 u h)) tt;
        priced = refl;
      })
      (fresh g edge_cost (is_allowed counts) limit x0 s0) (empty refl refl)

  weigh_best : (x0 : ℕ) (s0 : Bool) (st : State) (b : Found) → GoodFrom x0 s0 st → Best b → Best (weigh st b)
  weigh_best x0 s0 st b h k =
      by_truth (improves b.kept st.kept)
      (λ e. let low = improves_low b.kept st.kept e in rw e (elim h [ empty p q ↦ absurd (no_inf (rw p at low)) | reading r c ↦ some r c low ]))
      (λ e. rw e (elim k [ none p q ↦ none p q | some r c l ↦ some r c l ]))

  -- a cost below -E is kept
  abbrev Low : Found → Type 0
  Low b = T (lt b.kept (neg eps))

  weigh_low : (st : State) (b : Found) → Low b → Low (weigh st b)
  weigh_low st b h = by_truth (improves b.kept st.kept) (λ e. rw e (improves_low b.kept st.kept e)) (λ e. rw e h)

  weigh_hits : (st : State) (b : Found) → Best b → T (lt st.kept (neg eps)) → Low (weigh st b)
  weigh_hits st b (some r c l) h = weigh_low st b l
  weigh_hits st b (none e e') h =
      let t = and_i (lt st.kept (neg eps)) (lt st.kept (sub binary64 b.kept eps)) h (rw e (under_inf st.kept h)) in
      rw (T_true (improves b.kept st.kept) t) h

  -- ---- one start
  abbrev try : Change → Found → Found
  try = try_start g edge_cost (is_allowed counts) limit

  try_best : (z : Change) → z.0 < length counts → (b : Found) → Best b → Best (try z b)
  unfolding try_start
  try_best z l b k =
      by_truth (is_allowed counts z.0 z.1)
      (λ e. rw e (weigh_best z.0 z.1 (searched z.0 z.1) b (sound_run z.0 z.1 (lt→ltb z.0 (length counts) l) (true_T _ e)) k))
      (λ e. rw e k)

  try_low : (z : Change) (b : Found) → Low b → Low (try z b)
  unfolding try_start
  try_low z b h = by_truth (is_allowed counts z.0 z.1) (λ e. rw e (weigh_low (searched z.0 z.1) b h)) (λ e. rw e h)

  try_uncut : (z : Change) (b : Found) → T (not (try z b).cut) → T (not b.cut)
  unfolding try_start
  try_uncut z b t = by_truth (is_allowed counts z.0 z.1) (λ e. nor_left b.cut (searched z.0 z.1).cut (rw e at t)) (λ e. rw e at t)

  -- ---- all starts
  find_best : (l : List Change) → ((z : Change) → In z l → z.0 < length counts) → (b : Found) → Best b → Best (each try l b)
  find_best [] h b k = k
  find_best (z ∷ l) h b k = find_best l (λ w i. h w (inr i)) (try z b) (try_best z (h z (inl refl)) b k)

  find_low : (l : List Change) (b : Found) → Low b → Low (each try l b)
  find_low [] b k = k
  find_low (z ∷ l) b k = find_low l (try z b) (try_low z b k)

  find_uncut : (l : List Change) (b : Found) → T (not (each try l b).cut) → T (not b.cut)
  find_uncut [] b t = t
  find_uncut (z ∷ l) b t = try_uncut z b (find_uncut l (try z b) t)

  below : (z : Change) → In z (starts 0 (length counts)) → z.0 < length counts
  below z i = rw zero-add at (starts_below 0 (length counts) z i)

  pub sound_find : Best (find_augmentation g edge_cost (is_allowed counts) limit (length counts))
  unfolding find_augmentation
  sound_find = find_best (starts 0 (length counts)) below nothing_found (none refl refl)

  module _ (thin : Thin g) where
    try_hits : (x0 : ℕ) (s0 : Bool) (suf : List Change) → Reading g counts ((x0, s0) ∷ suf) → T (lt (cost edge_cost ((x0, s0) ∷ suf)) (neg two_eps))
        → (b : Found) → Best b → T (not (try (x0, s0) b).cut) → Low (try (x0, s0) b)
    unfolding try_start run
    try_hits x0 s0 suf r c b k t =
        rw u
        (weigh_hits (searched x0 s0) b k
        ((hits_run g edge_cost (is_allowed counts) limit x0 s0 thin suf r.move.two r.linked r.move.distinct (λ z i. downs z (inr i)) c).hit
        (fresh g edge_cost (is_allowed counts) limit x0 s0) (record { real = unfold lib.Ieee.is_nan in tt })
        (nor_right b.cut (searched x0 s0).cut (rw u at t))).low)
      where
        downs : (z : Change) → In z ((x0, s0) ∷ suf) → T (is_allowed counts z.0 z.1)
        downs = every_in (λ (z : Change). is_allowed counts z.0 z.1) ((x0, s0) ∷ suf) r.move.down

        u : is_allowed counts x0 s0 ≡ true
        u = T_true _ (downs (x0, s0) (inl refl))

    find_hits : (l : List Change) → ((z : Change) → In z l → z.0 < length counts)
        → (x0 : ℕ) (s0 : Bool) (suf : List Change) → Reading g counts ((x0, s0) ∷ suf) → T (lt (cost edge_cost ((x0, s0) ∷ suf)) (neg two_eps))
        → In (x0, s0) l → (b : Found) → Best b → T (not (each try l b).cut) → Low (each try l b)
    find_hits [] h x0 s0 suf r c i b k t = absurd i
    find_hits (z ∷ l) h x0 s0 suf r c (inl e) b k t =
        let u = find_uncut l (try z b) t in
        find_low l (try z b) (rw e at (try_hits x0 s0 suf r c b k (rw e u)))
    find_hits (z ∷ l) h x0 s0 suf r c (inr i) b k t = find_hits l (λ w j. h w (inr j)) x0 s0 suf r c i (try z b) (try_best z (h z (inl refl)) b k) t

    never : {b : Found} → Best b → b.best ≡ [] → Low b → ⊥
    never (none k k') e l = no_inf (rw k at l)
    never (some r c l') e l = let h = rw e at r.move.some in omega arith

    -- nothing found and nothing cut: no reading costs less than -2E
    pub complete_find : T (not (find_augmentation g edge_cost (is_allowed counts) limit (length counts)).cut)
        → (find_augmentation g edge_cost (is_allowed counts) limit (length counts)).best ≡ []
        → (r : List Change) → Reading g counts r → T (lt (cost edge_cost r) (neg two_eps)) → ⊥
    unfolding find_augmentation
    complete_find t e [] rd c = let h = rd.move.some in omega arith
    complete_find t e (z ∷ r) rd c =
        let there = every_in (λ (w : Change). ltb w.0 (length counts)) (z ∷ r) rd.move.there z (inl refl) in
        let i = rw zero-add at (starts_in 0 (length counts) z.0 z.1 (ltb→lt z.0 (length counts) there)) in
        never sound_find e (find_hits (starts 0 (length counts)) below z.0 z.1 r rd c i nothing_found (none refl refl) t)

-- What every act of the search keeps, and what it is for one to hit a low cost. Assumes nothing.
use mathlib.Core.Path.{subst}
use mathlib.Core.Bool.{Bool, true, false, not, ◌&&◌, cond}
use mathlib.Core.Logic.{inl, inr}
use mathlib.Core.List.{List, [], ◌∷◌, ◌++◌}
use Prim.Native.Nat.{ℕ, zero, suc}
use lib.ListN.{set}
use lib.Dec.{T, leb, eqb}
use lib.Ieee.{Float, add, sub, lt, neg, binary64, is_nan}
use lib.Ieee.Fits.{and_i, and_l}
use Rattle.base.specs.Lists.{each, In}
use Rattle.counts.specs.Move.{Change, balances}
use Rattle.regions.specs.Region.{Constraint, constraint}
use Rattle.counts.specs.Search.{partners, others_changed, eps, State, Act, skip, turned_back, entered, keep_reading, record_path}
use Rattle.counts.specs.Search.{path_is_complete, Go, try_step, visit_by, visit, enter_by, enter, unused, dfs, may_step, two_eps}
use Rattle.base.proofs.BoolLaws.{T_or_not, clash}
use Rattle.floats.proofs.scalar.Epsilon.{real_of_lt, below_again, far_below, two_eps_below}

pub record Fine (st : State) : Type 0 where
  pub real : T (not (is_nan st.kept))

pub record Low (st : State) : Type 0 where
  pub low : T (lt st.kept (neg eps))

pub record Keeps (f : Act) : Type 0 where
  pub fine : (st : State) → Fine st → Fine (f st)
  pub low : (st : State) → Low st → Low (f st)
  pub uncut : (st : State) → T (not (f st).cut) → T (not st.cut)

pub record Hits (f : Act) : Type 0 where
  pub hit : (st : State) → Fine st → T (not (f st).cut) → Low (f st)

pub keeps_skip : Keeps skip
keeps_skip = record { fine = λ st h. h; low = λ st h. h; uncut = λ st h. h }

pub keeps_turned_back : Keeps turned_back
keeps_turned_back = record { fine = λ st h. record { real = h.real }; low = λ st h. record { low = h.low }; uncut = λ st h. absurd h }

pub keeps_entered : Keeps entered
keeps_entered = record { fine = λ st h. record { real = h.real }; low = λ st h. record { low = h.low }; uncut = λ st h. h }

pub keeps_cond : (b : Bool) (f f' : Act) → Keeps f → Keeps f' → Keeps (cond b f f')
keeps_cond true f f' k k' = k
keeps_cond false f f' k k' = k'

pub keeps_each : {A : Type 0} (f : A → Act) → ((x : A) → Keeps (f x)) → (xs : List A) → Keeps (each f xs)
keeps_each f k [] = keeps_skip
keeps_each f k (x ∷ xs) =
    record {
      fine = λ st h. (keeps_each f k xs).fine (f x st) ((k x).fine st h);
      low = λ st h. (keeps_each f k xs).low (f x st) ((k x).low st h);
      uncut = λ st h. (k x).uncut st ((keeps_each f k xs).uncut (f x st) h);
    }

pub hits_each : {A : Type 0} (f : A → Act) → ((x : A) → Keeps (f x)) → (xs : List A) (a : A) → In a xs → Hits (f a) → Hits (each f xs)
hits_each f k [] a i h = absurd i
hits_each f k (x ∷ xs) a (inl e) h =
    record { hit = λ st r n. (keeps_each f k xs).low (f x st) ((subst (λ z. Hits (f z)) e h).hit st r ((keeps_each f k xs).uncut (f x st) n)) }
hits_each f k (x ∷ xs) a (inr i) h =
    record { hit = λ st r n. (hits_each f k xs a i h).hit (f x st) ((k x).fine st r) n }

-- a test that passes or fails, and what follows from either
pub by_test : {A : Type 0} (P : A → Type 0) (b : Bool) (f f' : A → A) (a : A) → (T b → P (f a)) → (T (not b) → P (f' a)) → P (cond b f f' a)
by_test P true f f' a p q = p tt
by_test P false f f' a p q = q tt

pub keeps_record_path : (g : List Constraint) (used : List Bool) (path : List Change) (t : Float) → Keeps (record_path g used path t)
unfolding record_path
keeps_record_path g used path t =
    record {
      fine = λ st h. by_test Fine (lt t (sub binary64 st.kept eps) && path_is_complete g used path) (keep_reading t path) skip st
          (λ b. record {
            real = real_of_lt t (sub binary64 st.kept eps)
                (and_l (lt t (sub binary64 st.kept eps)) (path_is_complete g used path) b);
          }) (λ b. h);
      low = λ st h. by_test Low (lt t (sub binary64 st.kept eps) && path_is_complete g used path) (keep_reading t path) skip st
          (λ b. record { low = below_again st.kept t h.low (and_l (lt t (sub binary64 st.kept eps)) (path_is_complete g used path) b) })
          (λ b. h);
      uncut = λ st. by_test (λ st'. T (not st'.cut) → T (not st.cut)) (lt t (sub binary64 st.kept eps) && path_is_complete g used path)
          (keep_reading t path) skip st
          (λ b h. h) (λ b h. h);
    }

pub hits_record_path : (g : List Constraint) (used : List Bool) (path : List Change) (t : Float) → T (path_is_complete g used path)
    → T (lt t (neg two_eps)) → Hits (record_path g used path t)
unfolding record_path
hits_record_path g used path t c h =
    record {
      hit = λ st r n. by_test Low (lt t (sub binary64 st.kept eps) && path_is_complete g used path) (keep_reading t path) skip st
          (λ b. record { low = two_eps_below t h })
          (λ b. elim (T_or_not (lt st.kept (neg eps))) [
            | inl y ↦ record { low = y }
            | inr o ↦ absurd (clash (lt t (sub binary64 st.kept eps) && path_is_complete g used path)
                (and_i (lt t (sub binary64 st.kept eps)) (path_is_complete g used path) (far_below st.kept t r.real o h) c) b)
          ]);
    }

abbrev pub KeepsGo : Go → Type 0
KeepsGo go = (used : List Bool) (path : List Change) (x : ℕ) (s : Bool) (t : Float) → Keeps (go used path x s t)

module _ (g : List Constraint) (edge_cost : ℕ → Bool → Float) (allowed : ℕ → Bool → Bool) (limit : ℕ) (x0 : ℕ) (s0 : Bool) where
  pub keeps_try_step : (go : Go) → KeepsGo go → (used : List Bool) (path : List Change) (t : Float) (i : ℕ) (z : Change)
      → Keeps (try_step g edge_cost allowed limit x0 s0 go used path t i z)
  unfolding try_step
  keeps_try_step go k used path t i z = keeps_cond (may_step g edge_cost allowed limit x0 s0 used path i z) _ skip
      (k used (path ++ z ∷ []) z.0 z.1 (add binary64 t (edge_cost z.0 z.1))) keeps_skip

  keeps_visit_by : (go : Go) → KeepsGo go → (used : List Bool) (path : List Change) (x : ℕ) (s : Bool) (t : Float) (i : ℕ) (os : List Change)
      → Keeps (visit_by g edge_cost allowed limit x0 s0 go used path x s t i os)
  keeps_visit_by go k used path x s t i [] = keeps_each _ (keeps_try_step go k (set used i true) path t i) (partners (constraint g i) x s)
  keeps_visit_by go k used path x s t i (w ∷ []) = keeps_cond (eqb w.0 x0 && balances (constraint g i) (x0, s0) (x, s)) _ skip
      (keeps_record_path g (set used i true) path t) keeps_skip
  keeps_visit_by go k used path x s t i (w ∷ v ∷ r) = keeps_skip

  pub keeps_visit : (go : Go) → KeepsGo go → (used : List Bool) (path : List Change) (x : ℕ) (s : Bool) (t : Float) (i : ℕ)
      → Keeps (visit g edge_cost allowed limit x0 s0 go used path x s t i)
  unfolding visit
  keeps_visit go k used path x s t i = keeps_visit_by go k used path x s t i (others_changed (constraint g i) x path)

  keeps_enter_by : (go : Go) → KeepsGo go → (used : List Bool) (path : List Change) (x : ℕ) (s : Bool) (t : Float) (is : List ℕ)
      → Keeps (enter_by g edge_cost allowed limit x0 s0 go used path x s t is)
  keeps_enter_by go k used path x s t [] = keeps_record_path g used path t
  keeps_enter_by go k used path x s t (i ∷ is) = keeps_each _ (keeps_visit go k used path x s t) (i ∷ is)

  keeps_then : (f f' : Act) → Keeps f → Keeps f' → Keeps (λ st. f' (f st))
  keeps_then f f' k k' =
      record {
        fine = λ st h. k'.fine (f st) (k.fine st h);
        low = λ st h. k'.low (f st) (k.low st h);
        uncut = λ st h. k.uncut st (k'.uncut (f st) h);
      }

  pub keeps_enter : (go : Go) → KeepsGo go → KeepsGo (enter g edge_cost allowed limit x0 s0 go)
  unfolding enter
  keeps_enter go k used path x s t = keeps_then entered _ keeps_entered
      (keeps_enter_by go k used path x s t (unused g edge_cost allowed limit x0 s0 used x))

  pub keeps_dfs : (k : ℕ) → KeepsGo (dfs g edge_cost allowed limit x0 s0 k)
  unfolding dfs
  keeps_dfs zero used path x s t = keeps_skip
  keeps_dfs (suc k) used path x s t =
      record {
        fine = λ st h. by_test Fine (leb limit st.expansions) turned_back _ st (λ b. keeps_turned_back.fine st h)
            (λ b. (keeps_enter (dfs g edge_cost allowed limit x0 s0 k) (keeps_dfs k) used path x s t).fine st h);
        low = λ st h. by_test Low (leb limit st.expansions) turned_back _ st (λ b. keeps_turned_back.low st h)
            (λ b. (keeps_enter (dfs g edge_cost allowed limit x0 s0 k) (keeps_dfs k) used path x s t).low st h);
        uncut = λ st. by_test (λ st'. T (not st'.cut) → T (not st.cut)) (leb limit st.expansions) turned_back _ st (λ b h. absurd h)
            (λ b h. (keeps_enter (dfs g edge_cost allowed limit x0 s0 k) (keeps_dfs k) used path x s t).uncut st h);
      }

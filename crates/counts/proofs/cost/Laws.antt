-- Laws of the edge costs and the energy: one turn of the loops that write and add them. Assumes nothing.
use mathlib.Core.Logic.{◌≢◌}
use mathlib.Core.Path.{◌≡◌, refl, sym, ap, subst, ◌∙◌}
use mathlib.Core.Bool.{Bool, true, false}
use mathlib.Core.List.{List, [], ◌∷◌}
use Prim.Native.Nat.{ℕ, zero, suc, ◌+◌, ◌*◌, ◌/◌, ◌<◌, ◌≤◌}
use native.Mathlib.Omega.{arith}
use borrow.Author.Count.{below_more}
use lib.ListN.{length, get_or, set, drop, length-set, drop_of_length-le}
use lib.Seq.{get_or-set_same, get_or-set_other}
use lib.Dec.{ltb}
use lib.Ieee.{Float, nan, add, binary64}
use Rattle.counts.specs.Move.{is_allowed}
use Rattle.floats.specs.Scalar.{one}
use Rattle.counts.specs.Cost.{real, deviation, square, range_delta, CostModel, by_ranges, Local, energy_from}
use Rattle.counts.specs.inner.Tables.{set_both, Entries, MayFillCosts, CostsFilled}
use Rattle.regions.specs.Accept.{max_edges}
use Rattle.base.proofs.Turns.{drop_at}

-- below the length the default does not matter
pub get_d_default : {A : Type 0} (l : List A) (i : ℕ) (d d' : A) → i < length l → get_or l i d ≡ get_or l i d'
get_d_default [] i d d' h = absurd (omega arith)
get_d_default (x ∷ l) zero d d' h = refl
get_d_default (x ∷ l) (suc i) d d' h = get_d_default l i d d' (omega arith)

-- ---- both entries of an edge set

pub both_plus : {A : Type 0} (l : List A) (e : ℕ) (a b d : A) → e * 2 + 1 < length l → get_or (set_both l e a b) (e * 2 + 1) d ≡ a
both_plus l e a b d h =
    get_or-set_other (set l (e * 2 + 1) a) (e * 2) (e * 2 + 1) b d (λ q. omega arith)
    ∙ get_or-set_same l (e * 2 + 1) a d h

pub both_minus : {A : Type 0} (l : List A) (e : ℕ) (a b d : A) → e * 2 + 1 < length l → get_or (set_both l e a b) (e * 2) d ≡ b
both_minus l e a b d h = get_or-set_same (set l (e * 2 + 1) a) (e * 2) b d (simp length-set (omega arith))

pub both_other : {A : Type 0} (l : List A) (e k : ℕ) (a b d : A) → k / 2 ≢ e → get_or (set_both l e a b) k d ≡ get_or l k d
both_other l e k a b d n =
    get_or-set_other (set l (e * 2 + 1) a) (e * 2) k b d (λ q. n (omega (arith, q)))
    ∙ get_or-set_other l (e * 2 + 1) k a d (λ q. n (omega (arith, q)))

pub length_both : {A : Type 0} (l : List A) (e : ℕ) (a b : A) → length (set_both l e a b) ≡ length l
length_both l e a b = length-set (set l (e * 2 + 1) a) (e * 2) b ∙ length-set l (e * 2 + 1) a

-- ---- the entries of one edge

module _ (counts : List ℕ) (model : CostModel) (costs : List Float) (allowed : List Bool) (e : ℕ) (a b : Float) (t : Bool) where
  abbrev costs_then : List Float
  costs_then = set_both costs e a b

  abbrev may_then : List Bool
  may_then = set_both allowed e true t

  pub entries_kept : (y : ℕ) → y ≢ e → Entries counts model costs allowed y → Entries counts model costs_then may_then y
  entries_kept y n old =
      record {
        plus_cost = both_other costs e (y * 2 + 1) a b nan (λ q. n (omega (arith, q))) ∙ old.plus_cost;
        minus_cost = both_other costs e (y * 2) a b nan (λ q. n (omega (arith, q))) ∙ old.minus_cost;
        plus_allowed = both_other allowed e (y * 2 + 1) true t false (λ q. n (omega (arith, q))) ∙ old.plus_allowed;
        minus_allowed = both_other allowed e (y * 2) true t false (λ q. n (omega (arith, q))) ∙ old.minus_allowed;
      }

  pub entries_new : e * 2 + 1 < length costs → e * 2 + 1 < length allowed → a ≡ model counts e true → b ≡ model counts e false
      → t ≡ is_allowed counts e false → Entries counts model costs_then may_then e
  entries_new h k p q r =
      record {
        plus_cost = both_plus costs e a b nan h ∙ p;
        minus_cost = both_minus costs e a b nan h ∙ q;
        plus_allowed = both_plus allowed e true t false k;
        minus_allowed = both_minus allowed e true t false k ∙ r;
      }

-- a turn of the loop that fills the tables: edge e has the entries of its price
pub costs_more : {counts : List ℕ} {model : CostModel} {costs costs' : List Float} {allowed allowed' : List Bool} {e : ℕ} {price : Bool → Float}
    → e < max_edges → ((d : Bool) → price d ≡ model counts e d) → costs' ≡ set_both costs e (price true) (price false)
    → allowed' ≡ set_both allowed e true (ltb 0 (get_or counts e 0)) → CostsFilled e counts model costs allowed
    → CostsFilled (e + 1) counts model costs' allowed'
costs_more {counts} {model} {costs} {costs'} {allowed} {allowed'} {e} {price} h is c-is a_is old =
    let a = price true in
    let b = price false in
    let t = ltb 0 (get_or counts e 0) in
    let c : e * 2 + 1 < length costs = (let l = old.costs_long in omega arith) in
    let m : e * 2 + 1 < length allowed = (let l = old.allowed_long in omega arith) in
    let then : CostsFilled (e + 1) counts model (set_both costs e a b) (set_both allowed e true t) =
    record {
      entries = below_more (Entries counts model (set_both costs e a b) (set_both allowed e true t)) e
          (λ z l. entries_kept counts model costs allowed e a b t z (λ u. omega (arith, u, l)) (old.entries z l))
          (entries_new counts model costs allowed e a b t c m (is true) (is false) refl);
      costs_long = length_both costs e a b ∙ old.costs_long;
      allowed_long = length_both allowed e true t ∙ old.allowed_long;
    } in
    subst (λ (l : List Bool). CostsFilled (e + 1) counts model costs' l) (sym a_is)
    (subst (λ (l : List Float). CostsFilled (e + 1) counts model l (set_both allowed e true t)) (sym c-is) then)

pub costs_done : {counts : List ℕ} {model : CostModel} {costs : List Float} {allowed : List Bool} {e m : ℕ} → m ≤ e
    → CostsFilled e counts model costs allowed
    → CostsFilled m counts model costs allowed
costs_done h f = record { entries = λ y l. f.entries y (omega arith); costs_long = f.costs_long; allowed_long = f.allowed_long }

-- the price of an edge by its range: the lists reach so far, so it does not matter what would stand past their ends
pub range_price : {counts : List ℕ} {least most costs : List Float} {allowed : List Bool} {e : ℕ} → MayFillCosts counts least most costs allowed
    → e < length counts → (s : Bool) → range_delta (get_or counts e 0) (get_or least e nan) (get_or most e nan) s ≡ by_ranges least most counts e s
range_price {counts} {least} {most} {e = e} may h s =
    let l = may.least_long in
    let m = may.most_long in
    ap (λ (x : Float). range_delta (get_or counts e 0) x (get_or most e nan) s) (get_d_default least e nan one (omega arith))
    ∙ ap (λ (x : Float). range_delta (get_or counts e 0) (get_or least e one) x s) (get_d_default most e nan one (omega arith))

pub ranges_local : (least most : List Float) → Local (by_ranges least most)
ranges_local least most before after x d e = ap (λ (s : ℕ). range_delta s (get_or least x one) (get_or most x one) d) e

-- ---- the energy
pub energy_turn : (counts : List ℕ) (ideals : List Float) (d t : Float) (e : ℕ) → e < length counts → e < length ideals
    → energy_from t (drop e counts) (drop e ideals)
    ≡ energy_from (add binary64 t (square (deviation (real (get_or counts e 0)) (get_or ideals e d)))) (drop (e + 1) counts) (drop (e + 1) ideals)
unfolding energy_from
energy_turn counts ideals d t e h k =
    ap (λ (l : List ℕ). energy_from t l (drop e ideals)) (drop_at counts 0 e h)
    ∙ ap (energy_from t (get_or counts e 0 ∷ drop (e + 1) counts)) (drop_at ideals d e k)

pub energy_end : (counts : List ℕ) (ideals : List Float) (t : Float) (e : ℕ) → length counts ≤ e → energy_from t (drop e counts) ideals ≡ t
unfolding energy_from
energy_end counts ideals t e h = ap (λ (l : List ℕ). energy_from t l ideals) (drop_of_length-le counts h)

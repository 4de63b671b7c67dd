-- Labels of edges: marks of constraints made one, edge by edge, give every constraint one label; and the edges of one component refreshed.
-- Assumes nothing.
use mathlib.Core.Logic.{◌≢◌, inl, inr}
use mathlib.Core.Path.{◌≡◌, refl, sym, ap, subst, ◌∙◌}
use mathlib.Core.Bool.{Bool, true, false, cond}
use mathlib.Core.List.{List}
use Prim.Native.Nat.{ℕ, ◌+◌, ◌*◌, ◌/◌, ◌≤◌, ◌<◌}
use native.Mathlib.Omega.{arith}
use borrow.Author.Count.{below_more}
use lib.ListN.{length, get_or, set, length-set}
use lib.Seq.{get_or-set_same, get_or-set_other}
use lib.Dec.{T, eqb, ltb, eqb→eq, ltb→lt, nltb→le}
use lib.Ieee.{Float, nan}
use Rattle.counts.specs.Cost.{CostModel}
use Rattle.counts.specs.inner.Tables.{set_both, Entries, no_constraint, max_constraints, changes}
use Rattle.counts.specs.inner.Components.{At, Labels, renamed, Renamed, StillEqual, OneMark, MarksJoined, AllJoined, Taken, AllTaken}
use Rattle.counts.specs.inner.Components.{Outside, EdgeRefreshed, left_alone, renewed, Refreshed}
use Rattle.regions.specs.Accept.{max_edges}
use Rattle.base.proofs.BoolLaws.{by_cases, eq→eqb, cond_yes, clash}
use Rattle.counts.proofs.cost.Laws.{both_plus, both_minus, both_other, length_both, entries_kept, entries_new}

-- ---- marks

pub still_same : {marks : List ℕ} → length marks ≡ max_constraints → StillEqual marks marks
still_same l = record { long = l; equal = λ i j hi hj e. e }

-- the marks below i are renamed, the others as they were
pub record Renaming (marks₀ : List ℕ) (from to : ℕ) (marks : List ℕ) (i : ℕ) : Type 0 where
  pub long : length marks ≡ max_constraints
  pub done : (k : ℕ) → k < i → get_or marks k 0 ≡ renamed from to (get_or marks₀ k 0)
  pub rest : (k : ℕ) → i ≤ k → get_or marks k 0 ≡ get_or marks₀ k 0

pub rename_more : {marks₀ marks : List ℕ} {from to i v : ℕ} → Renaming marks₀ from to marks i → i < max_constraints
    → v ≡ renamed from to (get_or marks i 0) → Renaming marks₀ from to (set marks i v) (i + 1)
rename_more {marks₀} {marks} {from} {to} {i} {v} r h e =
    record {
      long = length-set marks i v ∙ r.long;
      done = below_more (λ (k : ℕ). get_or (set marks i v) k 0 ≡ renamed from to (get_or marks₀ k 0)) i
          (λ k m. get_or-set_other marks i k v 0 (λ q. omega (arith, q, m)) ∙ r.done k m)
          (get_or-set_same marks i v 0 (let l = r.long in omega arith) ∙ e ∙ ap (renamed from to) (r.rest i (omega arith)));
      rest = λ k m. get_or-set_other marks i k v 0 (λ q. omega (arith, q, m)) ∙ r.rest k (omega (arith, m));
    }

-- an edge whose entries are a and b, with equal marks, or marks that become so
module _ (incident marks : List ℕ) (e : ℕ) {a b : ℕ} (a_is : a ≡ get_or incident (e * 2) 0) (b_is : b ≡ get_or incident (e * 2 + 1) 0) where
  one : {marks' : List ℕ} → StillEqual marks marks' → get_or marks' a 0 ≡ get_or marks' b 0 → MarksJoined incident e marks marks'
  one {marks'} s q =
      record {
        still_equal = s;
        one_mark = λ ha hb. ap (λ (k : ℕ). get_or marks' k 0) (sym a_is) ∙ q ∙ ap (λ (k : ℕ). get_or marks' k 0) b_is;
      }

  pub marks_same : length marks ≡ max_constraints → get_or marks a 0 ≡ get_or marks b 0 → MarksJoined incident e marks marks
  marks_same l q = one (still_same l) q

  same_either : (c : Bool) (x : ℕ) → cond c x x ≡ x
  same_either true x = refl
  same_either false x = refl

  pub marks_renamed : {marks' : List ℕ} → a < max_constraints → b < max_constraints → Renamed marks (get_or marks b 0) (get_or marks a 0) marks'
      → MarksJoined incident e marks marks'
  marks_renamed ha hb r =
      let from = get_or marks b 0 in
      let to = get_or marks a 0 in
      one (record { long = r.long; equal = λ i j hi hj e. r.each_is i hi ∙ ap (renamed from to) e ∙ sym (r.each_is j hj) })
      (r.each_is a ha ∙ same_either (eqb to from) to ∙ sym (r.each_is b hb ∙ cond_yes (eqb from from) to from (eq→eqb from from refl)))

-- the constraints of the edges below e have one mark
pub record Joining (incident marks : List ℕ) (e : ℕ) : Type 0 where
  pub long : length marks ≡ max_constraints
  pub one_mark : (x : ℕ) → x < e → OneMark incident marks x

pub join_more : {incident marks marks' : List ℕ} {e : ℕ} → Joining incident marks e → MarksJoined incident e marks marks'
    → Joining incident marks' (e + 1)
join_more {incident} {marks' = marks'} {e = e} j m =
    record {
      long = m.still_equal.long;
      one_mark = below_more (OneMark incident marks') e (λ x l ha hb. m.still_equal.equal _ _ ha hb (j.one_mark x l ha hb)) m.one_mark;
    }

-- ---- labels

-- the edges below e have their marks
pub record Taking (incident marks labels : List ℕ) (e : ℕ) : Type 0 where
  pub long : length labels ≡ max_edges
  pub taken : (x : ℕ) → x < e → Taken incident marks labels x

pub taken_more : {incident marks labels : List ℕ} {e v : ℕ} → Taking incident marks labels e → e < max_edges
    → (get_or incident (e * 2) 0 < no_constraint → v ≡ get_or marks (get_or incident (e * 2) 0) 0) → Taking incident marks (set labels e v) (e + 1)
taken_more {incident} {marks} {labels} {e} {v} t h is =
    record {
      long = length-set labels e v ∙ t.long;
      taken = below_more (Taken incident marks (set labels e v)) e
          (λ x l f. get_or-set_other labels e x v 0 (λ q. omega (arith, q, l)) ∙ t.taken x l f)
          (λ f. get_or-set_same labels e v 0 (let l = t.long in omega arith) ∙ is f);
    }

pub labelled : {n : ℕ} {incident marks labels : List ℕ} → AllJoined n incident marks → AllTaken n incident marks labels → Labels n incident labels
labelled {n} {incident} {marks} {labels} j t = record { alike = λ i x y hi hx hy ax ay. at i hi x hx ax ∙ sym (at i hi y hy ay) }
  where
    at : (i : ℕ) → i < no_constraint → (z : ℕ) → z < n → At incident i z → get_or labels z 0 ≡ get_or marks i 0
    at i hi z h (inl e) = t.taken z h (subst (λ (k : ℕ). k < no_constraint) (sym e) hi) ∙ ap (λ (k : ℕ). get_or marks k 0) e
    at i hi z h (inr p) =
        t.taken z h p.0
        ∙ j.one_mark z h p.0 (subst (λ (k : ℕ). k < no_constraint) (sym p.1) hi)
        ∙ ap (λ (k : ℕ). get_or marks k 0) p.1

-- ---- the edges of one component

outside_more : (e : ℕ) (labels : List ℕ) (component y : ℕ) → Outside e labels component y → (y ≡ e → get_or labels y 0 ≢ component)
    → Outside (e + 1) labels component y
outside_more e labels component y o here l =
    by_cases (ltb y e) (λ t. o (ltb→lt y e t)) (λ t. here (let m = nltb→le y e t in omega (arith, l, m)))

-- what is forgotten is not known
forgotten : (l : List Bool) (e k : ℕ) → e * 2 + 1 < length l → k / 2 ≡ e → get_or (set_both l e false false) k false ≡ false
forgotten l e k h q =
    by_cases (eqb k (e * 2)) (λ t. ap (λ (i : ℕ). get_or (set_both l e false false) i false) (eqb→eq k (e * 2) t) ∙ both_minus l e false false false h)
    (λ t. ap (λ (i : ℕ). get_or (set_both l e false false) i false) (odd (λ u. clash (eqb k (e * 2)) (eq→eqb k (e * 2) u) t))
    ∙ both_plus l e false false false h)
  where
    odd : (k ≡ e * 2 → ⊥) → k ≡ e * 2 + 1
    odd n = omega (arith, q, n)

pub refresh_none : {labels : List ℕ} {component : ℕ} {counts : List ℕ} {model : CostModel} {costs : List Float} {allowed known : List Bool}
    → length costs ≡ changes → length allowed ≡ changes → length known ≡ changes
    → Refreshed 0 labels component counts model costs allowed known costs allowed known
refresh_none c m k =
    record {
      costs_long = c;
      allowed_long = m;
      known_long = k;
      fresh = λ y l. absurd (omega arith);
      same_cost = λ k o. refl;
      same_allowed = λ k o. refl;
      still_known = λ k q. (λ l. absurd (omega arith), q);
    }

module _ {e : ℕ} {labels : List ℕ} {component : ℕ} {counts : List ℕ} {model : CostModel} {costs : List Float} {allowed known : List Bool}
    {costs₁ : List Float} {allowed₁ known₁ : List Bool}
    (r : Refreshed e labels component counts model costs allowed known costs₁ allowed₁ known₁) where
  pub refresh_done : {m : ℕ} → e ≡ m → Refreshed m labels component counts model costs allowed known costs₁ allowed₁ known₁
  refresh_done q = subst (λ (k : ℕ). Refreshed k labels component counts model costs allowed known costs₁ allowed₁ known₁) q r

  abbrev Then : List Float → List Bool → List Bool → Type 0
  Then = Refreshed (e + 1) labels component counts model costs allowed known

  module _ (h : e < max_edges) where
    wider : (k : ℕ) → Outside (e + 1) labels component (k / 2) → Outside e labels component (k / 2)
    wider k o l = o (omega (arith, l))

    not_here : get_or labels e 0 ≢ component → Then costs₁ allowed₁ known₁
    not_here n =
        record {
          costs_long = r.costs_long;
          allowed_long = r.allowed_long;
          known_long = r.known_long;
          fresh = below_more (λ (y : ℕ). get_or labels y 0 ≡ component → Entries counts model costs₁ allowed₁ y) e r.fresh (λ q. absurd (n q));
          same_cost = λ k o. r.same_cost k (wider k o);
          same_allowed = λ k o. r.same_allowed k (wider k o);
          still_known = λ k q. (
            outside_more e labels component (k / 2) (r.still_known k q).0 (λ u. subst (λ (y : ℕ). get_or labels y 0 ≢ component) (sym u) n),
            (r.still_known k q).1,
          );
        }

    module _ (price : Bool → Float) (is : (d : Bool) → price d ≡ model counts e d) (label : get_or labels e 0 ≡ component) where
      abbrev a : Float
      a = price true

      abbrev b : Float
      b = price false

      abbrev t : Bool
      t = ltb 0 (get_or counts e 0)

      elsewhere : (k : ℕ) → Outside (e + 1) labels component (k / 2) → k / 2 ≢ e
      elsewhere k o q = o (omega (arith, q)) (ap (λ (y : ℕ). get_or labels y 0) q ∙ label)

      still : (k : ℕ) → get_or (set_both known₁ e false false) k false ≡ true → Outside (e + 1) labels component (k / 2) × (get_or known k false ≡ true)
      still k q =
          let l = r.known_long in
          let n : k / 2 ≢ e = (λ u. let f : T false = subst T (sym q ∙ forgotten known₁ e k (omega (arith, l, h)) u) tt in f) in
          let s = r.still_known k (sym (both_other known₁ e k false false false n) ∙ q) in
          (outside_more e labels component (k / 2) s.0 (λ u. absurd (n u)), s.1)

      pub here : Then (set_both costs₁ e a b) (set_both allowed₁ e true t) (set_both known₁ e false false)
      here =
          record {
            costs_long = length_both costs₁ e a b ∙ r.costs_long;
            allowed_long = length_both allowed₁ e true t ∙ r.allowed_long;
            known_long = length_both known₁ e false false ∙ r.known_long;
            fresh = below_more (λ (y : ℕ). get_or labels y 0 ≡ component → Entries counts model (set_both costs₁ e a b) (set_both allowed₁ e true t) y)
                e
                (λ y l q. entries_kept counts model costs₁ allowed₁ e a b t y (λ u. omega (arith, u, l)) (r.fresh y l q))
                (λ q. entries_new counts model costs₁ allowed₁ e a b t (let l = r.costs_long in omega (arith, l, h))
                (let l = r.allowed_long in omega (arith, l, h))
                (is true) (is false) refl);
            same_cost = λ k o. both_other costs₁ e k a b nan (elsewhere k o) ∙ r.same_cost k (wider k o);
            same_allowed = λ k o. both_other allowed₁ e k true t false (elsewhere k o) ∙ r.same_allowed k (wider k o);
            still_known = still;
          }

    -- lists that are equal
    carried : {costs₂ costs₃ : List Float} {allowed₂ allowed₃ known₂ known₃ : List Bool} → costs₃ ≡ costs₂ → allowed₃ ≡ allowed₂ → known₃ ≡ known₂
        → Then costs₂ allowed₂ known₂ → Then costs₃ allowed₃ known₃
    carried {costs₂} {costs₃} {allowed₂} {allowed₃} {known₂} {known₃} c m k w =
        subst (λ (l : List Float). Then l allowed₃ known₃) (sym c)
        (subst (λ (l : List Bool). Then costs₂ l known₃) (sym m) (subst (λ (l : List Bool). Then costs₂ allowed₂ l) (sym k) w))

    pub refresh_more : {price : Bool → Float} {costs₂ : List Float} {allowed₂ known₂ : List Bool} → ((d : Bool) → price d ≡ model counts e d)
        → EdgeRefreshed (get_or labels e 0) component (get_or counts e 0) price e costs₁ allowed₁ known₁ costs₂ allowed₂ known₂
        → Then costs₂ allowed₂ known₂
    refresh_more is (left_alone n c m k) = carried c m k (not_here n)
    refresh_more {price} is (renewed label c m k) = carried c m k (here price is label)

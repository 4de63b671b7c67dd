-- The two sides of a constraint, read from the records at an edge's slot: where they stand, which edges they have, and with which signs a step
-- could follow. The idea: the code walks along two stretches of the records one after the other. Each of these is what the record says of one side
-- (`sides_read`), so place j of the walk is place j of the two lists in a row (`edge_opposite`, `edge_own`), with a sign by the list that it is in.
-- That the lists are the sides of the constraint at the slot is what `Tables` says of the edge's own side, and comes in last. Assumes nothing.
use mathlib.Core.Logic.{inl, inr}
use mathlib.Core.Path.{◌≡◌, refl, sym, ap, subst, ◌∙◌}
use mathlib.Core.Bool.{Bool, true, false, not, ◌&&◌, ◌||◌, cond}
use mathlib.Core.List.{List, [], ◌∷◌, ◌++◌}
use Prim.Native.Nat.{ℕ, zero, suc, ◌+◌, ◌-◌, ◌*◌, ◌/◌, ◌%◌, ◌≤◌, ◌<◌}
use native.Mathlib.Omega.{arith}
use lib.ListN.{length, get_or, take, drop, length-drop, length-append}
use lib.Seq.{get_or-take, get_or-drop, get_or-append-add, length-take-le}
use lib.Dec.{eqb, T}
use Rattle.base.specs.Lists.{In, differs, member}
use Rattle.regions.specs.Region.{Constraint, constraint, holds, opposite_side, own_side, places, side_size, across}
use Rattle.counts.specs.Move.{Change, select}
use Rattle.counts.specs.Search.{others_changed, signed}
use Rattle.counts.specs.inner.Tables.{StandsOn, Tables, decoded, edges_on, the_graph, edge_slots, no_constraint}
use Rattle.counts.specs.inner.SearchContract.{SidesInside, MayReadSides, SidesRead, both_in, both_sides, both_signed, changed_among, opposite_in}
use Rattle.counts.specs.inner.SearchContract.{own_in, signed_in}
use Rattle.counts.specs.declared.search.Sides.{Sides}
use Rattle.base.proofs.BoolLaws.{T_true, true_T}
use Rattle.base.proofs.ListLaws.{in→member}

-- ---- what a constraint holds

pub member_append : (e : ℕ) (a b : List ℕ) → member e (a ++ b) ≡ (member e a || member e b)
member_append e [] b = refl
member_append e (x ∷ a) b = ap (λ (k : Bool). eqb e x || k) (member_append e a b) ∙ go (eqb e x) (member e a) (member e b)
  where
    go : (p q r : Bool) → (p || (q || r)) ≡ ((p || q) || r)
    go true q r = refl
    go false q r = refl

or_swap : (a b : Bool) → (a || b) ≡ (b || a)
or_swap true true = refl
or_swap true false = refl
or_swap false true = refl
or_swap false false = refl

pub holds_both : (c : Constraint) (x e : ℕ) → holds c e ≡ member e (both_sides c x)
holds_both c x e = go (member x c.a) ∙ sym (member_append e (opposite_side c x) (own_side c x))
  where
    go : (b : Bool) → holds c e ≡ (member e (cond b c.b c.a) || member e (cond b c.a c.b))
    go true = or_swap (member e c.a) (member e c.b)
    go false = refl

-- ---- where the two sides stand

-- what `sides_of` asks is there for an edge at its slot
pub may_read : {regions : List ℕ} {i x s : ℕ} → StandsOn regions i x s → MayReadSides regions s
may_read d = record {
  below = d.below;
  own_fits = d.own_fits;
  opposite_fits = d.opposite_fits;
  own_few = d.own_few;
  opposite_few = d.opposite_few;
}

pub may_read_same : {regions : List ℕ} {s s' : ℕ} → s' ≡ s → MayReadSides regions s → MayReadSides regions s'
may_read_same {regions} e m = subst (MayReadSides regions) (sym e) m

-- what it reads: h is side s, h' the one across it, and a and b are the numbers of their edges
pub sides_read : {regions : List ℕ} {s h h' a b : ℕ} → MayReadSides regions s → h ≡ s → h' ≡ across h → a ≡ get_or regions (h' * side_size places) 0
    → b ≡ get_or regions (h * side_size places) 0
    → SidesRead regions s (record { opposite = h' * side_size places + 1; split = a; own = h * side_size places + 1; total = a + b })
sides_read {regions} {s} {h} {h'} {a} {b} m q e p r =
    record {
      opposite_is = ap (λ (k : ℕ). take k (drop (h' * side_size places + 1) regions)) p ∙ ap (edges_on regions) e';
      own_is = ap (λ (k : ℕ). take k (drop (h * side_size places + 1) regions)) ((let d : a + b - a ≡ b = omega arith in d) ∙ r)
          ∙ ap (edges_on regions) q;
      inside = record {
        opposite_fits = omega (arith, fits', few');
        own_fits = omega (arith, fits, few);
        in_order = omega arith;
        few = omega (arith, few', few);
      };
    }
  where
    e' : h' ≡ across s
    e' = e ∙ ap across q

    fits' : h' * side_size places + side_size places ≤ length regions
    fits' = rw e' m.opposite_fits

    fits : h * side_size places + side_size places ≤ length regions
    fits = rw q m.own_fits

    few' : a ≤ places
    few' = rw (p, e') m.opposite_few

    few : b ≤ places
    few = rw (r, q) m.own_few

-- ---- the edge and the change at j of the two sides

getD_left : {A : Type 0} (a b : List A) (j : ℕ) (d : A) → j < length a → get_or (a ++ b) j d ≡ get_or a j d
getD_left [] b j d h = absurd (omega (arith, h))
getD_left (x ∷ a) b zero d h = refl
getD_left (x ∷ a) b (suc j) d h = getD_left a b j d (omega (arith, h))

signed_at : (s : Bool) (l : List ℕ) (j : ℕ) (d : Change) → j < length l → get_or (signed s l) j d ≡ (get_or l j 0, s)
signed_at s [] j d h = absurd (omega (arith, h))
signed_at s (y ∷ l) zero d h = refl
signed_at s (y ∷ l) (suc j) d h = signed_at s l j d (omega (arith, h))

signed_left : (s s' : Bool) (l m : List ℕ) (j : ℕ) (d : Change) → j < length l → get_or (signed s l ++ signed s' m) j d ≡ (get_or (l ++ m) j 0, s)
signed_left s s' [] m j d h = absurd (omega (arith, h))
signed_left s s' (y ∷ l) m zero d h = refl
signed_left s s' (y ∷ l) m (suc j) d h = signed_left s s' l m j d (omega (arith, h))

signed_right : (s s' : Bool) (l m : List ℕ) (j : ℕ) (d : Change) → length l ≤ j → j < length l + length m
    → get_or (signed s l ++ signed s' m) j d ≡ (get_or (l ++ m) j 0, s')
signed_right s s' [] m j d h h' = signed_at s' m j d (omega (arith, h'))
signed_right s s' (y ∷ l) m zero d h h' = absurd (omega (arith, h))
signed_right s s' (y ∷ l) m (suc j) d h h' = signed_right s s' l m j d (omega (arith, h)) (omega (arith, h'))

length_signed : (s : Bool) (l : List ℕ) → length (signed s l) ≡ length l
length_signed s [] = refl
length_signed s (y ∷ l) = ap suc (length_signed s l)

decoded_of : (y r : ℕ) → r < 2 → decoded (y * 2 + r) ≡ (y, eqb r 1)
decoded_of y r h =
    ap (λ (k : ℕ). (k, eqb ((y * 2 + r) % 2) 1)) (let q : (y * 2 + r) / 2 ≡ y = omega (arith, h) in q)
    ∙ ap (λ (k : ℕ). (y, eqb k 1)) (let q : (y * 2 + r) % 2 ≡ r = omega (arith, h) in q)

turned_sign : (c : ℕ) → eqb (1 - c % 2) 1 ≡ not (eqb (c % 2) 1)
turned_sign c = go (c % 2) (let q : c % 2 < 2 = omega arith in q)
  where
    go : (k : ℕ) → k < 2 → eqb (1 - k) 1 ≡ not (eqb k 1)
    go zero q = refl
    go (suc zero) q = refl
    go (suc (suc k)) q = absurd (omega (arith, q))

module _ {regions : List ℕ} {r : Sides} (inside : SidesInside regions r) where
  opposite_long : length (opposite_in regions r) ≡ r.split
  opposite_long = length-take-le r.split (drop r.opposite regions) (omega (arith, length-drop r.opposite regions))

  own_long : length (own_in regions r) ≡ r.total - r.split
  own_long = length-take-le (r.total - r.split) (drop r.own regions) (omega (arith, length-drop r.own regions))

  pub length_both_in : length (both_in regions r) ≡ r.total
  length_both_in = length-append (opposite_in regions r) (own_in regions r) ∙ omega (arith, opposite_long, own_long)

  pub length_signed_in : (s : Bool) → length (signed_in regions r s) ≡ r.total
  length_signed_in s =
      length-append (signed s (opposite_in regions r)) (signed (not s) (own_in regions r))
      ∙ omega (arith, length_signed s (opposite_in regions r), length_signed (not s) (own_in regions r), opposite_long, own_long)

  module _ {j y : ℕ} where
    pub edge_opposite : j < r.split → y ≡ get_or regions (r.opposite + j) 0 → y ≡ get_or (both_in regions r) j 0
    edge_opposite h e =
        e ∙ sym (get_or-drop r.opposite regions j 0) ∙ sym (get_or-take r.split (drop r.opposite regions) j 0 h)
        ∙ sym (getD_left (opposite_in regions r) (own_in regions r) j 0 (omega (arith, opposite_long, h)))

    pub edge_own : r.split ≤ j → j < r.total → y ≡ get_or regions (r.own + (j - r.split)) 0 → y ≡ get_or (both_in regions r) j 0
    edge_own h h' e =
        e ∙ sym (get_or-drop r.own regions (j - r.split) 0)
        ∙ sym (get_or-take (r.total - r.split) (drop r.own regions) (j - r.split) 0 (omega (arith, h, h')))
        ∙ sym (get_or-append-add (opposite_in regions r) (own_in regions r) (j - r.split) 0)
        ∙ ap (λ (k : ℕ). get_or (both_in regions r) k 0) (omega (arith, opposite_long, h))

    module _ (c : ℕ) where
      pub partner_opposite : j < r.split → y ≡ get_or regions (r.opposite + j) 0
          → decoded (y * 2 + c % 2) ≡ get_or (signed_in regions r (eqb (c % 2) 1)) j (decoded 0)
      partner_opposite h e =
          decoded_of y (c % 2) (omega arith) ∙ ap (λ (z : ℕ). (z, eqb (c % 2) 1)) (edge_opposite h e)
          ∙ sym (signed_left (eqb (c % 2) 1) (not (eqb (c % 2) 1)) (opposite_in regions r) (own_in regions r) j (decoded 0)
          (omega (arith, opposite_long, h)))

      pub partner_own : r.split ≤ j → j < r.total → y ≡ get_or regions (r.own + (j - r.split)) 0
          → decoded (y * 2 + (1 - c % 2)) ≡ get_or (signed_in regions r (eqb (c % 2) 1)) j (decoded 0)
      partner_own h h' e =
          decoded_of y (1 - c % 2) (omega arith) ∙ ap (λ (z : Bool). (y, z)) (turned_sign c)
          ∙ ap (λ (z : ℕ). (z, not (eqb (c % 2) 1))) (edge_own h h' e)
          ∙ sym (signed_right (eqb (c % 2) 1) (not (eqb (c % 2) 1)) (opposite_in regions r) (own_in regions r) j (decoded 0)
          (omega (arith, opposite_long, h)) (omega (arith, opposite_long, own_long, h, h')))

-- ---- the same, as the constraint at the slot has them

pub in_getD : (l : List ℕ) (j : ℕ) → j < length l → In (get_or l j 0) l
in_getD [] j h = absurd (omega (arith, h))
in_getD (x ∷ l) zero h = inl refl
in_getD (x ∷ l) (suc j) h = inr (in_getD l j (omega (arith, h)))

signed_edge : (s s' : Bool) (l m : List ℕ) (j : ℕ) → (get_or (signed s l ++ signed s' m) j (decoded 0)).0 ≡ get_or (l ++ m) j 0
signed_edge s s' [] [] j = refl
signed_edge s s' [] (y ∷ m) zero = refl
signed_edge s s' [] (y ∷ m) (suc j) = signed_edge s s' [] m j
signed_edge s s' (y ∷ l) m zero = refl
signed_edge s s' (y ∷ l) m (suc j) = signed_edge s s' l m j

-- two tests that agree select the same
select_alike : (p q : ℕ → Bool) → ((e : ℕ) → p e ≡ q e) → (l : List Change) → select p l ≡ select q l
select_alike p q h [] = refl
select_alike p q h (z ∷ l) = ap (λ (b : Bool). cond b (z ∷ select p l) (select p l)) (h z.0)
    ∙ ap (λ (k : List Change). cond (q z.0) (z ∷ k) k) (select_alike p q h l)

module _ {regions incident own : List ℕ} (tables : Tables regions incident own) {p : ℕ} (small : p < edge_slots)
    (real : get_or incident p 0 < no_constraint) where
  abbrev there : Constraint
  there = constraint (the_graph regions) (get_or incident p 0)

  abbrev stands : StandsOn regions (get_or incident p 0) (p / 2) (get_or own p 0)
  stands = tables.stands p small real

  -- a scan for the edges of both sides is one for those that the constraint holds
  pub scanned_there : (l : List Change) → changed_among (edges_on regions (across (get_or own p 0)) ++ edges_on regions (get_or own p 0)) (p / 2) l
      ≡ others_changed there (p / 2) l
  scanned_there l = rw (← stands.opposite_is, ← stands.own_is)
      (select_alike _ _ (λ e. ap (λ (b : Bool). differs (p / 2) e && b) (sym (holds_both there (p / 2) e))) l)

  module _ {r : Sides} (read : SidesRead regions (get_or own p 0) r) where
    opposite_there : opposite_in regions r ≡ opposite_side there (p / 2)
    opposite_there = read.opposite_is ∙ sym stands.opposite_is

    own_there : own_in regions r ≡ own_side there (p / 2)
    own_there = read.own_is ∙ sym stands.own_is

    pub signed_there : (s : Bool) → signed_in regions r s ≡ both_signed there (p / 2) s
    signed_there s = ap (λ (l : List ℕ). signed s l ++ signed (not s) (own_in regions r)) opposite_there
        ∙ ap (λ (l : List ℕ). signed s (opposite_side there (p / 2)) ++ signed (not s) l) own_there

    -- the constraint holds each partner's edge
    pub partner_there : (d j : ℕ) (s : Bool) → j < r.total → decoded d ≡ get_or (signed_in regions r s) j (decoded 0) → T (holds there (d / 2))
    partner_there d j s h e =
        true_T (holds there (d / 2)) (holds_both there (p / 2) (d / 2)
        ∙ T_true (member (d / 2) (both_sides there (p / 2)))
        (in→member (d / 2) (both_sides there (p / 2)) (subst (λ (l : List ℕ). In (d / 2) l) same within)))
      where
        same : both_in regions r ≡ both_sides there (p / 2)
        same = ap (λ (l : List ℕ). l ++ own_in regions r) opposite_there ∙ ap (λ (l : List ℕ). opposite_side there (p / 2) ++ l) own_there

        within : In (d / 2) (both_in regions r)
        within = subst (λ (k : ℕ). In k (both_in regions r))
            (sym (ap (λ (w : Change). w.0) e ∙ signed_edge s (not s) (opposite_in regions r) (own_in regions r) j))
            (in_getD (both_in regions r) j (omega (arith, length_both_in read.inside, h)))

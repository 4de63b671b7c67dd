-- The scan of a constraint for changed edges: a change against the edges of both sides, and the changes one after the other.
-- The idea: the changes that count are those of the path whose edge is among the edges es and is not x. One change more adds at most itself to
-- them (`path_more`), by whether it counts (`hit`). So what is told of the first i changes gives what is told of the first i + 1, and once a second
-- one was found, whatever comes after it, there are many. Assumes nothing.
use mathlib.Core.Logic.{◌≢◌}
use mathlib.Core.Path.{◌≡◌, refl, sym, ap, subst, ◌∙◌}
use mathlib.Core.Bool.{Bool, true, false, not, ◌&&◌, ◌||◌, cond}
use mathlib.Core.List.{List, [], ◌∷◌, ◌++◌, append-nil}
use Prim.Native.Nat.{ℕ, ◌+◌, ◌-◌, ◌/◌, ◌≤◌, ◌<◌}
use native.Mathlib.Omega.{arith}
use native.Mathlib.Numerals.{add-one}
use lib.ListN.{length, get_or, take, drop}
use lib.Seq.{take-suc, take_all, take-add}
use lib.Dec.{eqb}
use Rattle.base.specs.Lists.{In, member, differs}
use Rattle.counts.specs.Move.{Change}
use Rattle.counts.specs.inner.Tables.{all_decoded, decoded, path_of}
use Rattle.counts.specs.inner.SearchContract.{changed_among, changed_by}
use Rattle.counts.specs.declared.search.Changed.{Changed}
use Rattle.counts.specs.declared.search.Changed.TheVariants.{Many, Nothing, One}
use Rattle.base.proofs.BoolLaws.{T_true, ne→eqb, same→eqb}
use Rattle.base.proofs.ListLaws.{in→member}
use Rattle.counts.proofs.MoveLaws.{select_append}
use Rattle.counts.proofs.search.Slots.{decoded_append}
use Rattle.counts.proofs.search.TwoSides.{in_getD, member_append}

-- ---- one change against the edges of both sides

-- edge e is none of the first j, and what was found before is still all that was found
pub record Missed (es : List ℕ) (e : ℕ) (found₀ found : Changed) (j : ℕ) : Type 0 where
  pub same : found ≡ found₀
  pub none : member e (take j es) ≡ false

pub missed_next : {es : List ℕ} {e : ℕ} {found₀ found : Changed} {j : ℕ} → Missed es e found₀ found j → j < length es → get_or es j 0 ≢ e
    → Missed es e found₀ found (j + 1)
missed_next {es} {e} {found₀} {found} {j} m h n =
    record {
      same = m.same;
      none = ap (λ (k : ℕ). member e (take k es)) (add-one j) ∙ ap (member e) (take-suc es j 0 h) ∙ member_append e (take j es) (get_or es j 0 ∷ [])
          ∙ ap (λ (b : Bool). b || (eqb e (get_or es j 0) || false)) m.none
          ∙ ap (λ (b : Bool). b || false) (ne→eqb e (get_or es j 0) (λ q. n (sym q)));
    }

-- a changed edge e counts if it is not x and is among es
abbrev hit : List ℕ → ℕ → ℕ → Bool
hit es x e = differs x e && member e es

pub not_self : (b : Bool) (x e : ℕ) → e ≡ x → (differs x e && b) ≡ false
not_self b x e q = ap (λ (k : ℕ). not (eqb k x) && b) q ∙ ap (λ (a : Bool). not a && b) (same→eqb x)

hit_none : (es : List ℕ) (x e j : ℕ) → member e (take j es) ≡ false → length es ≤ j → hit es x e ≡ false
hit_none es x e j m h = ap (λ (b : Bool). differs x e && b) (ap (member e) (sym (take_all j es h)) ∙ m) ∙ go (differs x e)
  where
    go : (b : Bool) → (b && false) ≡ false
    go true = refl
    go false = refl

hit_yes : (es : List ℕ) (x e j : ℕ) → e ≢ x → j < length es → get_or es j 0 ≡ e → hit es x e ≡ true
hit_yes es x e j n h q =
    ap (λ (b : Bool). not b && member e es) (ne→eqb e x n) ∙ T_true (member e es) (in→member e es (subst (λ (k : ℕ). In k es) q (in_getD es j h)))

-- ---- what the scan tells

abbrev case : Changed → ℕ
case Nothing = 0
case (One e) = 1
case Many = 2

abbrev pub the_edge : Changed → ℕ
the_edge Nothing = 0
the_edge (One e) = e
the_edge Many = 0

-- nothing was found
found_nothing : (os : List Change) → changed_by os ≡ Nothing → os ≡ []
found_nothing [] r = refl
found_nothing (w ∷ []) r = let q = ap case r in absurd (omega (arith, q))
found_nothing (w ∷ v ∷ os) r = let q = ap case r in absurd (omega (arith, q))

-- one was found
pub found_one : (os : List Change) (e : ℕ) → changed_by os ≡ One e → (w : Change) × (os ≡ w ∷ []) × (w.0 ≡ e)
found_one [] e r = let q = ap case r in absurd (omega (arith, q))
found_one (w ∷ []) e r = (w, refl, ap the_edge r)
found_one (w ∷ v ∷ os) e r = let q = ap case r in absurd (omega (arith, q))

-- `found` tells of the first i of n changes
pub record Scanned (es : List ℕ) (x : ℕ) (path : List ℕ) (n : ℕ) (found : Changed) (i : ℕ) : Type 0 where
  pub below : i ≤ n
  pub fits : n ≤ length path
  pub so_far : found ≡ changed_by (changed_among es x (path_of i path))

-- no change is left
pub scan_ends : {es : List ℕ} {x : ℕ} {path : List ℕ} {n : ℕ} {found : Changed} {i : ℕ} → Scanned es x path n found i → n ≤ i
    → found ≡ changed_by (changed_among es x (path_of n path))
scan_ends {es} {x} {path} {n} {found} {i} s h =
    let q : i ≡ n = omega (arith, s.below, h) in
    s.so_far ∙ ap (λ (k : ℕ). changed_by (changed_among es x (path_of k path))) q

-- one change more, of edge e
module _ {es : List ℕ} {x : ℕ} {path : List ℕ} {n : ℕ} {found : Changed} {i : ℕ} (s : Scanned es x path n found i) (turn : i < n) {e : ℕ}
    (is_edge : e ≡ get_or path i 0 / 2) where
  abbrev before : List Change
  before = changed_among es x (path_of i path)

  abbrev this : Bool → List Change
  this b = cond b (decoded (get_or path i 0) ∷ []) []

  path_more : {b : Bool} → hit es x e ≡ b → changed_among es x (path_of (i + 1) path) ≡ before ++ this b
  path_more q =
      ap (λ (k : ℕ). changed_among es x (path_of k path)) (add-one i)
      ∙ ap (λ (k : List ℕ). changed_among es x (all_decoded k)) (take-suc path i 0 (omega (arith, turn, s.fits)))
      ∙ ap (changed_among es x) (decoded_append (take i path) (get_or path i 0 ∷ []))
      ∙ select_append (λ (y : ℕ). differs x y && member y es) (path_of i path) (decoded (get_or path i 0) ∷ [])
      ∙ ap (λ (b : Bool). before ++ this b) (sym (ap (hit es x) is_edge) ∙ q)

  not_counted : hit es x e ≡ false → {found' : Changed} → found' ≡ found → Scanned es x path n found' (i + 1)
  not_counted q f = record {
    below = omega (arith, turn);
    fits = s.fits;
    so_far = f ∙ s.so_far ∙ ap changed_by (sym (append-nil before) ∙ sym (path_more q));
  }

  -- it is edge x
  pub scan_self : {found' : Changed} → found' ≡ found → e ≡ x → Scanned es x path n found' (i + 1)
  scan_self f q = not_counted (not_self (member e es) x e q) f

  -- it is none of es
  pub scan_missed : {found' found'' : Changed} {j : ℕ} → found'' ≡ found' → Missed es e found found' j → length es ≤ j
      → Scanned es x path n found'' (i + 1)
  scan_missed f m h = not_counted (hit_none es x e _ m.none h) (f ∙ m.same)

  -- it is one of them, the first or a later one
  module _ {j : ℕ} (other : e ≢ x) (within : j < length es) (is_it : get_or es j 0 ≡ e) where
    pub scan_first : {found' : Changed} → found' ≡ One e → found ≡ Nothing → Scanned es x path n found' (i + 1)
    scan_first f z =
        record {
          below = omega (arith, turn);
          fits = s.fits;
          so_far = f ∙ ap One is_edge ∙ sym (ap changed_by (path_more (hit_yes es x e j other within is_it)
              ∙ ap (λ (k : List Change). k ++ decoded (get_or path i 0) ∷ []) (found_nothing before (sym s.so_far ∙ z))));
        }

    pub scan_second : found ≢ Nothing → Many ≡ changed_by (changed_among es x (path_of n path))
    scan_second z =
        sym (ap changed_by (ap (λ (k : ℕ). changed_among es x (path_of k path)) (let r : n ≡ (i + 1) + (n - (i + 1)) = omega (arith, turn) in r)
        ∙ ap (λ (k : List ℕ). changed_among es x (all_decoded k)) (take-add (i + 1) (n - (i + 1)) path)
        ∙ ap (changed_among es x) (decoded_append (take (i + 1) path) (take (n - (i + 1)) (drop (i + 1) path)))
        ∙ select_append (λ (y : ℕ). differs x y && member y es) (path_of (i + 1) path) (path_of (n - (i + 1)) (drop (i + 1) path))
        ∙ ap (λ (k : List Change). k ++ changed_among es x (path_of (n - (i + 1)) (drop (i + 1) path)))
        (path_more (hit_yes es x e j other within is_it)))
        ∙ two before (changed_among es x (path_of (n - (i + 1)) (drop (i + 1) path))) (λ r. z (s.so_far ∙ ap changed_by r)))
      where
        two : (os r : List Change) → (os ≡ [] → ⊥) → changed_by ((os ++ decoded (get_or path i 0) ∷ []) ++ r) ≡ Many
        two [] r k = absurd (k refl)
        two (w ∷ []) r k = refl
        two (w ∷ v ∷ os) r k = refl

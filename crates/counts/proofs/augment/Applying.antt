-- A move's changes made one after the other: each edge is met once, so that its count is still the one before the move. Assumes nothing.
use mathlib.Core.Logic.{inl, inr}
use mathlib.Core.Path.{◌≡◌, refl, sym, ap, subst, ◌∙◌}
use mathlib.Core.Bool.{not, ◌||◌}
use mathlib.Core.List.{List, [], ◌∷◌, ◌++◌}
use Prim.Native.Nat.{ℕ, zero, suc, ◌+◌, ◌/◌, ◌%◌, ◌≤◌, ◌<◌}
use native.Mathlib.Numerals.{add-one}
use native.Mathlib.Omega.{arith}
use lib.ListN.{length, get_or, set, length-set}
use lib.Seq.{get_or-set_other}
use lib.Dec.{T, eqb, eqb→eq, not_T}
use Rattle.base.specs.Lists.{In, member, Distinct}
use Rattle.counts.specs.Move.{Change, edges, changed, apply_changes}
use Rattle.counts.specs.inner.Tables.{decoded, path_of}
use Rattle.counts.specs.inner.RoundContract.{MayApply, MayChange}
use Rattle.base.proofs.BoolLaws.{clash, or_split, or_left, or_right, eq→eqb}
use Rattle.base.proofs.ListLaws.{in→member}
use Rattle.counts.proofs.MoveLaws.{edges_in}

-- ---- apply_changes

pub apply_length : (r : List Change) (counts : List ℕ) → length (apply_changes r counts) ≡ length counts
apply_length [] counts = refl
apply_length (z ∷ r) counts =
    apply_length r (set counts z.0 (changed z.1 (get_or counts z.0 0))) ∙ length-set counts z.0 (changed z.1 (get_or counts z.0 0))

pub apply_other : (r : List Change) (counts : List ℕ) (x : ℕ) → T (not (member x (edges r))) → get_or (apply_changes r counts) x 0 ≡ get_or counts x 0
apply_other [] counts x t = refl
apply_other (z ∷ r) counts x t =
    apply_other r (set counts z.0 (changed z.1 (get_or counts z.0 0))) x
    (not_T (member x (edges r)) (λ u. clash (member x (edges (z ∷ r))) (or_right (eqb x z.0) (member x (edges r)) u) t))
    ∙ get_or-set_other counts z.0 x (changed z.1 (get_or counts z.0 0)) 0
    (λ q. clash (member x (edges (z ∷ r))) (or_left (eqb x z.0) (member x (edges r)) (eq→eqb x z.0 q)) t)

apply_last : (r : List Change) (z : Change) (counts : List ℕ)
    → set (apply_changes r counts) z.0 (changed z.1 (get_or (apply_changes r counts) z.0 0)) ≡ apply_changes (r ++ z ∷ []) counts
apply_last [] z counts = refl
apply_last (w ∷ r) z counts = apply_last r z (set counts w.0 (changed w.1 (get_or counts w.0 0)))

-- ---- the changes in a buffer

path_more : (i : ℕ) (l : List ℕ) → i < length l → path_of (suc i) l ≡ path_of i l ++ decoded (get_or l i 0) ∷ []
path_more zero [] h = absurd (omega arith)
path_more (suc i) [] h = absurd (omega arith)
path_more zero (c ∷ l) h = refl
path_more (suc i) (c ∷ l) h = ap {B = List Change} (λ p. decoded c ∷ p) (path_more i l (omega arith))

path_in : (i n : ℕ) (l : List ℕ) → i < n → i < length l → In (decoded (get_or l i 0)) (path_of n l)
path_in i zero l h b = absurd (omega arith)
path_in zero (suc n) [] h b = absurd (omega arith)
path_in (suc i) (suc n) [] h b = absurd (omega arith)
path_in zero (suc n) (c ∷ l) h b = inl refl
path_in (suc i) (suc n) (c ∷ l) h b = inr (path_in i n l (omega arith) (omega arith))

path_distinct : (i n : ℕ) (l : List ℕ) → i < n → i < length l → Distinct (edges (path_of n l))
    → T (not (member (get_or l i 0 / 2) (edges (path_of i l))))
path_distinct zero n l h b d = tt
path_distinct (suc i) zero l h b d = absurd (omega arith)
path_distinct (suc i) (suc n) [] h b d = absurd (omega arith)
path_distinct (suc i) (suc n) (c ∷ l) h b d =
    not_T (member (get_or l i 0 / 2) (edges (path_of (suc i) (c ∷ l)))) (λ t. go t (path_distinct i n l (omega arith) (omega arith) d.1))
  where
    e : ℕ
    e = get_or l i 0 / 2

    go : T (eqb e (c / 2) || member e (edges (path_of i l))) → T (not (member e (edges (path_of i l)))) → ⊥
    go t u = elim (or_split (eqb e (c / 2)) (member e (edges (path_of i l))) t) [
      | inl q ↦ clash (member (c / 2) (edges (path_of n l)))
          (subst (λ (x : ℕ). T (member x (edges (path_of n l)))) (eqb→eq e (c / 2) q)
          (in→member e (edges (path_of n l)) (edges_in (decoded (get_or l i 0)) (path_of n l) (path_in i n l (omega arith) (omega arith)))))
          d.0
      | inr m ↦ clash (member e (edges (path_of i l))) m u
    ]

-- ---- one change

-- the first i changes are made
pub record ChangesMade (counts₀ best : List ℕ) (len : ℕ) (counts : List ℕ) (i : ℕ) : Type 0 where
  pub made : counts ≡ apply_changes (path_of i best) counts₀
  pub in_range : i ≤ len

-- what is known when change c is to be made
pub record AtChange (c : ℕ) (counts : List ℕ) : Type 0 where
  pub below : c / 2 < length counts
  pub may : MayChange (get_or counts (c / 2) 0) (eqb (c % 2) 1)

module _ {counts₀ best : List ℕ} {len : ℕ} {counts : List ℕ} {i : ℕ} (so_far : ChangesMade counts₀ best len counts i) where
  pub still_long : length counts ≡ length counts₀
  still_long = ap length so_far.made ∙ apply_length (path_of i best) counts₀

  pub all_made : len ≤ i → counts ≡ apply_changes (path_of len best) counts₀
  all_made h =
      so_far.made ∙ (let l = so_far.in_range in let e : i ≡ len = omega arith in ap (λ (n : ℕ). apply_changes (path_of n best) counts₀) e)

  module _ {c : ℕ} (may : MayApply counts₀ best len) (more : i < len) (is : c ≡ get_or best i 0) where
    inside : i < length best
    inside = let l = may.len_fits in let q = may.best_long in omega arith

    at_index : AtChange (get_or best i 0) counts
    at_index =
        let z = decoded (get_or best i 0) in
        let there = path_in i len best more inside in
        let same : get_or counts z.0 0 ≡ get_or counts₀ z.0 0 =
        ap (λ (l : List ℕ). get_or l z.0 0) so_far.made
        ∙ apply_other (path_of i best) counts₀ z.0 (path_distinct i len best more inside may.can.distinct) in
        record {
          below = subst (λ (n : ℕ). z.0 < n) (sym still_long) (may.can.below z there);
          may = subst (λ (n : ℕ). MayChange n z.1) (sym same) (record { small = may.can.small z.0; down = may.can.down z there });
        }

    pub at_change : AtChange c counts
    at_change = subst (λ (x : ℕ). AtChange x counts) (sym is) at_index

    pub apply_turn : {s : ℕ} → s ≡ changed (eqb (c % 2) 1) (get_or counts (c / 2) 0) → ChangesMade counts₀ best len (set counts (c / 2) s) (i + 1)
    apply_turn q =
        record {
          made =
              ap (λ (x : ℕ). set counts (c / 2) x) q
              ∙ ap (λ (x : ℕ). set counts (x / 2) (changed (eqb (x % 2) 1) (get_or counts (x / 2) 0))) is
              ∙ ap (λ (l : List ℕ). set l (get_or best i 0 / 2) (changed (eqb (get_or best i 0 % 2) 1) (get_or l (get_or best i 0 / 2) 0))) so_far.made
              ∙ apply_last (path_of i best) (decoded (get_or best i 0)) counts₀
              ∙ ap (λ (r : List Change). apply_changes r counts₀) (sym (path_more i best inside))
              ∙ ap (λ (n : ℕ). apply_changes (path_of n best) counts₀) (sym (add-one i));
          in_range = omega arith;
        }

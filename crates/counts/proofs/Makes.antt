-- A unit move applied to counts changes them by its +1 and -1 alone, and does change them. Assumes nothing.
use mathlib.Core.Logic.{inl, inr}
use mathlib.Core.Path.{◌≡◌, refl, sym, ap, ◌∙◌}
use mathlib.Core.Bool.{Bool, true, false}
use mathlib.Core.List.{List, [], ◌∷◌}
use Prim.Native.Nat.{ℕ, suc, ◌-◌, ◌<◌}
use native.Mathlib.Omega.{arith}
use lib.ListN.{length, get_or, length-set}
use lib.Seq.{get_or-set_same}
use lib.Dec.{T, eqb, ltb→lt}
use Rattle.base.specs.Lists.{In, member, Distinct}
use Rattle.regions.specs.Region.{Constraint}
use Rattle.counts.specs.Move.{Change, edges, is_allowed, changed, apply_changes, UnitMove, Makes}
use Rattle.base.proofs.BoolLaws.{by_truth, clash, nor_left, nor_right, eq→eqb}
use Rattle.counts.proofs.MoveLaws.{later_differs, after, after_other, Doable, doable_rest, doable_move}

makes_cons : {z : Change} {r : List Change} {counts : List ℕ} → Doable counts (z ∷ r) → Makes (after z counts) r (apply_changes r (after z counts))
    → Makes counts (z ∷ r) (apply_changes (z ∷ r) counts)
makes_cons {z} {r} {counts} d ih =
    record {
      same_length = ih.same_length ∙ length-set counts z.0 (changed z.1 (get_or counts z.0 0));
      plus = λ x i. elim i [
        | inl q ↦ ih.other x (rw (← q) at d.distinct.0) ∙ up x q
        | inr j ↦ ih.plus x j ∙ ap suc (after_other z counts x (later_differs z r d.distinct (x, true) j))
      ];
      minus = λ x i. elim i [
        | inl q ↦ ap suc (ih.other x (rw (← q) at d.distinct.0)) ∙ down x q
        | inr j ↦ ih.minus x j ∙ after_other z counts x (later_differs z r d.distinct (x, false) j)
      ];
      other = λ x t.
          let n = nor_left (eqb x z.0) (member x (edges r)) t in
          ih.other x (nor_right (eqb x z.0) (member x (edges r)) t) ∙ after_other z counts x (λ q. clash (eqb x z.0) (eq→eqb x z.0 q) n);
    }
  where
    up : (x : ℕ) → (x, true) ≡ z → get_or (after z counts) x 0 ≡ suc (get_or counts x 0)
    up x q = rw (← q) (get_or-set_same counts x (suc (get_or counts x 0)) 0 (rw (← q) at (d.there z (inl refl))))

    down : (x : ℕ) → (x, false) ≡ z → suc (get_or (after z counts) x 0) ≡ get_or counts x 0
    down x q =
        let e = get_or-set_same counts x (get_or counts x 0 - 1) 0 (rw (← q) at (d.there z (inl refl))) in
        let v = ltb→lt 0 (get_or counts x 0) (rw (← q) at (d.allowed z (inl refl))) in
        rw (← q) (omega arith)

makes : (r : List Change) (counts : List ℕ) → Doable counts r → Makes counts r (apply_changes r counts)
makes [] counts d = record { same_length = refl; plus = λ x i. absurd i; minus = λ x i. absurd i; other = λ x t. refl }
makes (z ∷ r) counts d = makes_cons d (makes r (after z counts) (doable_rest d))

pub makes_apply : (r : List Change) (counts : List ℕ) → Distinct (edges r) → ((z : Change) → In z r → z.0 < length counts)
    → ((z : Change) → In z r → T (is_allowed counts z.0 z.1)) → Makes counts r (apply_changes r counts)
makes_apply r counts d b c = makes r counts (record { distinct = d; there = b; allowed = c })

pub makes_move : (g : List Constraint) (counts : List ℕ) (r : List Change) → UnitMove g counts r → Makes counts r (apply_changes r counts)
makes_move g counts r m = makes r counts (doable_move m)

-- a move changes a count
pub move_differs : (counts : List ℕ) (r : List Change) → 0 < length r → Makes counts r (apply_changes r counts) → apply_changes r counts ≡ counts → ⊥
move_differs counts [] h m e = omega arith
move_differs counts (z ∷ r) h m e =
    let same = ap (λ (l : List ℕ). get_or l z.0 0) e in
    by_truth z.1
    (λ q. omega (arith, m.plus z.0 (inl (ap (λ (s : Bool). (z.0, s)) (sym q)))))
    (λ q. omega (arith, m.minus z.0 (inl (ap (λ (s : Bool). (z.0, s)) (sym q)))))

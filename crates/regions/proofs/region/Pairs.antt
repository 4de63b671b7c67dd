-- Opposite sides: which one is opposite, by the half of its record that a side stands in, and whether both are empty. Assumes nothing.
use mathlib.Core.Path.{◌≡◌, refl, sym, ap, ◌∙◌}
use mathlib.Core.Bool.{Bool, ◌&&◌, and_comm}
use mathlib.Core.List.{List, [], ◌∷◌}
use Prim.Native.Nat.{ℕ, suc, ◌+◌, ◌-◌, ◌/◌, ◌%◌, ◌≤◌, ◌<◌}
use native.Mathlib.Omega.{arith}
use lib.Dec.{ltb, eqb, lt→ltb, ltb→lt, nltb→le}
use lib.Arith.{le→nltb}
use lib.ListN.{length}
use Rattle.base.proofs.BoolLaws.{by_cases, clash, cond_yes, cond_no, ne→eqb}
use Rattle.regions.specs.Region.{places, side, across, is_empty, both_empty, empty_pair}

-- ---- the side across

pub across_low : (s : ℕ) → s % 4 < 2 → s + 2 ≡ across s
across_low s h = sym (cond_yes (ltb (s % 4) 2) (s + 2) (s - 2) (lt→ltb (s % 4) 2 h))

pub across_high : (s : ℕ) → 2 ≤ s % 4 → s - 2 ≡ across s
across_high s h = sym (cond_no (ltb (s % 4) 2) (s + 2) (s - 2) (λ t. clash (ltb (s % 4) 2) t (le→nltb (s % 4) 2 h)))

-- it stands in the same record
pub across_inside : (s : ℕ) → across s / 4 ≡ s / 4
across_inside s =
    by_cases (ltb (s % 4) 2)
    (λ t. let l = ltb→lt (s % 4) 2 t in let e = across_low s l in omega (arith, e, l))
    (λ t. let l = nltb→le (s % 4) 2 t in let e = across_high s l in omega (arith, e, l))

-- ---- a pair that is empty

-- both of its sides say so
pub pair_same : (p : ℕ) (regions : List ℕ) (j k : ℕ) → across j ≡ k → across k ≡ j → empty_pair p regions j ≡ empty_pair p regions k
unfolding empty_pair
pair_same p regions j k e f =
    ap (λ (x : ℕ). both_empty (side p regions j) (side p regions x)) e
    ∙ and_comm (is_empty (side p regions j)) (is_empty (side p regions k))
    ∙ ap (λ (x : ℕ). both_empty (side p regions k) (side p regions x)) (sym f)

empty_by : (l : List ℕ) → eqb (length l) 0 ≡ is_empty l
empty_by [] = refl
empty_by (x ∷ l) = ne→eqb (suc (length l)) 0 (λ e. absurd (omega (arith, e)))

pub pair_by : (regions : List ℕ) (k : ℕ) {edges others : List ℕ} → edges ≡ side places regions k → others ≡ side places regions (across k)
    → (eqb (length edges) 0 && eqb (length others) 0) ≡ empty_pair places regions k
unfolding empty_pair
pair_by regions k {edges} {others} e o =
    ap (λ (b : Bool). b && eqb (length others) 0) (empty_by edges ∙ ap is_empty e)
    ∙ ap (λ (b : Bool). is_empty (side places regions k) && b) (empty_by others ∙ ap is_empty o)

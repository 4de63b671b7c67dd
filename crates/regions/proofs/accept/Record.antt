-- A record taken out of an accepted list has the sides that it has there, for any number p of places. Assumes nothing.
use mathlib.Core.Path.{◌≡◌, refl}
use mathlib.Core.List.{List, [], ◌∷◌}
use Prim.Native.Nat.{ℕ, zero, suc, ◌+◌, ◌*◌, ◌≤◌, ◌<◌}
use native.Mathlib.Nat.{zero-mul, suc-mul, mul-le-mul_right}
use native.Mathlib.Omega.{arith}
use lib.ListN.{get_or, take, drop}
use lib.Seq.{get_or-take, take-take}
use lib.Dec.{T}
use Rattle.base.proofs.BoolLaws.{T_true}
use Rattle.base.proofs.TestLaws.{then_left}
use Rattle.regions.specs.Region.{side_size, record_size, region_count, from_region, side}
use Rattle.regions.specs.Accept.{sides_fit, limits_test, regions_test, accepted}
use Rattle.regions.proofs.accept.Laws.{from_next, sides_rest, side_few, limits_passed, whole_sides}

-- a part that lies in the first n values
part_of_front : (i m n : ℕ) (l : List ℕ) → i + m ≤ n → take m (drop i (take n l)) ≡ take m (drop i l)
part_of_front zero m n l h = take-take m n l (omega arith)
part_of_front (suc i) m zero l h = absurd (omega arith)
part_of_front (suc i) m (suc n) [] h = refl
part_of_front (suc i) m (suc n) (x ∷ l) h = part_of_front i m n l (omega arith)

-- side k lies within its record
pub within_record : (p k : ℕ) → k < 4 → k * side_size p + side_size p ≤ record_size p
within_record p k h = rw suc-mul at (mul-le-mul_right (side_size p) h)

side_of_record : (p : ℕ) (l : List ℕ) (k : ℕ) → k < 4 → get_or l (k * side_size p) 0 ≤ p → side p (take (record_size p) l) k ≡ side p l k
side_of_record p l k h few =
    let at = k * side_size p in
    let w = within_record p k h in
    rw (get_or-take (record_size p) l at 0 (omega (arith, w)), part_of_front (suc at) (get_or l at 0) (record_size p) l (omega (arith, w, few)))

-- no side of record r has more edges than places
few_at : (p m : ℕ) (l : List ℕ) → T (sides_fit p m l) → (r : ℕ) → r < m → (k : ℕ) → k < 4 → get_or (from_region p l r) (k * side_size p) 0 ≤ p
few_at p zero l t r h k b = absurd (omega arith)
few_at p (suc m) l t zero h k b = rw zero-mul (side_few p m l t k b)
few_at p (suc m) l t (suc r) h k b = rw from_next at (few_at p m (drop (record_size p) l) (sides_rest p m l t) r (omega arith) k b)

pub same_sides : (p n : ℕ) (regions : List ℕ) → T (accepted p n regions) → (r : ℕ) → r < region_count p regions
    → (k : ℕ) → k < 4 → side p (take (record_size p) (from_region p regions r)) k ≡ side p (from_region p regions r) k
unfolding accepted
same_sides p n regions t r h k b =
    let limits = limits_passed p n regions (T_true _ (then_left (limits_test p n regions) (regions_test p n regions) t)) in
    side_of_record p (from_region p regions r) k b (few_at p (region_count p regions) regions (whole_sides p regions limits.1) r h k b)

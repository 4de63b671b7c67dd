-- `regions::region::side` meets its contract. The part lent is the definition's: past the list's end there is nothing, and a side that runs over it ends there;
-- else `start + n - start` is n. Assumes nothing.
use mathlib.Core.Path.{◌≡◌, sym, ap, ◌∙◌}
use mathlib.Core.List.{List, []}
use Prim.Native.Nat.{ℕ, suc, ◌+◌, ◌-◌, ◌*◌, ◌≤◌, ◌<◌}
use native.Mathlib.Omega.{arith}
use native.Mathlib.Numerals.{add-one}
use lib.ListN.{length, get_or, take, drop, length-drop, get_or-eq_default}
use lib.Seq.{take_all}
use Rattle.regions.specs.Region.{places, side, side_size}
use Rattle.regions.proofs.accept.Laws.{rest}
use Rattle.regions.proofs.region.side.Goals as goal

-- the list ends before the number of edges
no-side : (l : List ℕ) (k : ℕ) → length l ≤ k * side_size places → [] ≡ side places l k
no-side l k h = sym (ap (λ (n : ℕ). take n (drop (suc (k * side_size places)) l)) (get_or-eq_default l 0 h))

-- it ends before the last edge
cut-side : (l : List ℕ) (k : ℕ) → length l < k * side_size places + 1 + get_or l (k * side_size places) 0
    → take (length l - (k * side_size places + 1)) (drop (k * side_size places + 1) l) ≡ side places l k
cut-side l k h =
    let r : List ℕ = drop (k * side_size places + 1) l in
    let e : length r ≡ length l - (k * side_size places + 1) = length-drop (k * side_size places + 1) l in
    rest (k * side_size places + 1) l ∙ sym (take_all (get_or l (k * side_size places) 0) r (omega arith))
    ∙ ap (λ (n : ℕ). take (get_or l (k * side_size places) 0) (drop n l)) (add-one (k * side_size places))

whole_side : (l : List ℕ) (k : ℕ) → take (k * side_size places + 1 + get_or l (k * side_size places) 0 - (k * side_size places + 1)) (drop (k * side_size places + 1) l) ≡ side places l k
whole_side l k =
    let e : k * side_size places + 1 + get_or l (k * side_size places) 0 - (k * side_size places + 1) ≡ get_or l (k * side_size places) 0 = omega arith in
    ap (λ (n : ℕ). take n (drop (k * side_size places + 1) l)) e ∙ ap (λ (n : ℕ). take (get_or l (k * side_size places) 0) (drop n l)) (add-one (k * side_size places))

pub returns-then-at-records : goal.returns-then-at-records
returns-then-at-records c = no-side c.args.records.now c.args.k c.if-at-records.true

pub overflow_add-end : goal.overflow_add-end
overflow_add-end c = omega (arith, c.from-n.ensures, c.type_inv.records (c.args.k * side_size places))

pub returns-then-end-records : goal.returns-then-end-records
returns-then-end-records c = cut-side c.args.records.now c.args.k (rw c.from-n.ensures at c.if-end-records.true)

pub returns : goal.returns
returns c = rw c.from-n.ensures (whole_side c.args.records.now c.args.k)

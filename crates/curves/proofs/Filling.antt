-- A loop that writes f 0, f 1, .. one a turn, n of them, over d from an index on. Assumes nothing.
use mathlib.Core.Path.{◌≡◌, refl, sym, ap, ◌∙◌}
use mathlib.Core.List.{List, [], ◌∷◌}
use Prim.Native.Nat.{ℕ, zero, suc, ◌+◌, ◌<◌, ◌≤◌}
use native.Mathlib.Nat.{add-zero, zero-add, add-suc, suc-add, le_of_suc-le-suc, not-suc-le-zero}
use native.Mathlib.Omega.{arith}
use lib.ListN.{length, get_or, set, length-set}
use Rattle.std.proofs.Common.{◌≢◌, below_more, get_or-set_other, get_or-set_same}
use Rattle.base.specs.Buffers.{tabulate, splice}
use Rattle.base.proofs.BufferLaws.{fill_step}

-- before turn i
pub record Filling {A : Type 0} (f : ℕ → A) (from n : ℕ) (d : List A) (i : ℕ) (out : List A) : Type 0 where
  pub within : i ≤ n
  pub same_length : length out ≡ length d
  pub written : out ≡ splice d from (tabulate f 0 i)

module _ {A : Type 0} {f : ℕ → A} {from n : ℕ} {d : List A} where
  pub fill_next : {i k : ℕ} {out : List A} {v : A} → Filling f from n d i out → i < n → k ≡ from + i → from + n ≤ length d → v ≡ f i
      → Filling f from n d (i + 1) (set out k v)
  fill_next {i} {k} {out} {v} s h e r w = record {
    within = omega arith;
    same_length = simp length-set s.same_length;
    written = fill_step d from f out i k v s.written e (omega arith) w;
  }

  pub fill_done : {i : ℕ} {out : List A} → Filling f from n d i out → n ≤ i → out ≡ splice d from (tabulate f 0 n)
  fill_done {i} s h = let e : i ≡ n = omega arith in s.written ∙ ap (λ (k : ℕ). splice d from (tabulate f 0 k)) e

-- the element i of a list by its index function
pub at_index : {A : Type 0} (f : ℕ → A) (k n i : ℕ) (z : A) → i < n → get_or (tabulate f k n) i z ≡ f (k + i)
at_index f k zero i z h = absurd (not-suc-le-zero h)
at_index f k (suc n) zero z h = rw add-zero
at_index f k (suc n) (suc i) z h = rw (at_index f (suc k) n i z (le_of_suc-le-suc h), suc-add, ← add-suc)

-- a list is the one by an index function that gives its elements
from_index : {A : Type 0} (f : ℕ → A) (k n : ℕ) (xs : List A) (z : A) → length xs ≡ n → ((i : ℕ) → i < n → get_or xs i z ≡ f (k + i)) → xs ≡ tabulate f k n
from_index f k zero [] z e h = refl
from_index f k zero (x ∷ xs) z e h = absurd (omega arith)
from_index f k (suc n) [] z e h = absurd (omega arith)
from_index f k (suc n) (x ∷ xs) z e h =
    let first : x ≡ f k = h 0 (omega arith) ∙ ap f (add-zero k) in
    let rest = from_index f (suc k) n xs z (omega arith) (λ i l. h (suc i) (omega arith) ∙ ap f (add-suc k i ∙ sym (suc-add k i))) in
    rw (first, rest)

pub by_index : {A : Type 0} (f : ℕ → A) (n : ℕ) (xs : List A) (z : A) → length xs ≡ n → ((i : ℕ) → i < n → get_or xs i z ≡ f i) → xs ≡ tabulate f 0 n
by_index f n xs z e h = from_index f 0 n xs z e (λ i l. h i l ∙ ap f (sym (zero-add i)))

-- a loop that stores one element a turn, by what is known of those below i
pub stored_more : {A : Type 0} (g : ℕ → A) (xs : List A) (z : A) {i : ℕ} {v : A} → i < length xs → ((k : ℕ) → k < i → get_or xs k z ≡ g k) → v ≡ g i
    → (k : ℕ) → k < i + 1 → get_or (set xs i v) k z ≡ g k
stored_more g xs z {i} h below e =
    below_more _ _ (λ k l. let ne : k ≢ i = omega arith in rw get_or-set_other (below k l)) (rw get_or-set_same e)

-- One turn of a loop along a list: what is left of a list from index i on, and a test of some or of every element from there on.
-- Assumes nothing.
use mathlib.Core.Path.{◌≡◌, refl}
use mathlib.Core.Bool.{Bool, true, false}
use mathlib.Core.List.{List, [], ◌∷◌}
use Prim.Native.Nat.{ℕ, ◌+◌, ◌<◌, ◌≤◌}
use native.Mathlib.Numerals.{add-one}
use lib.ListN.{length, get_or, drop, drop_of_length-le}
use lib.Dec.{eqb}
use lib.Seq.{drop-cons}
use Rattle.std.specs.List.{list_any}
use Rattle.base.specs.Lists.{member, any, all}
use Rattle.base.proofs.BoolLaws.{eqb_comm}

module _ {A : Type 0} (xs : List A) (d : A) (i : ℕ) where
  pub drop_at : i < length xs → drop i xs ≡ get_or xs i d ∷ drop (i + 1) xs
  drop_at h = rw (add-one, drop-cons xs i d)

  module _ (p : A → Bool) where
    pub any_here : i < length xs → p (get_or xs i d) ≡ true → any p (drop i xs) ≡ true
    any_here h t = rw (drop_at, t)

    pub any_next : i < length xs → p (get_or xs i d) ≡ false → any p (drop i xs) ≡ any p (drop (i + 1) xs)
    any_next h t = rw (drop_at, t)

    pub any_end : length xs ≤ i → any p (drop i xs) ≡ false
    any_end h = rw drop_of_length-le

    pub all_here : i < length xs → p (get_or xs i d) ≡ false → all p (drop i xs) ≡ false
    all_here h t = rw (drop_at, t)

    pub all_next : i < length xs → p (get_or xs i d) ≡ true → all p (drop i xs) ≡ all p (drop (i + 1) xs)
    all_next h t = rw (drop_at, t)

    pub all_end : length xs ≤ i → all p (drop i xs) ≡ true
    all_end h = rw drop_of_length-le

pub member_any : (x : ℕ) (l : List ℕ) → member x l ≡ any (eqb x) l
member_any x [] = refl
member_any x (y ∷ l) = rw (member_any x l)

-- std's words for the same tests
pub list_any_is : {A : Type 0} (p : A → Bool) (l : List A) → list_any p l ≡ any p l
list_any_is p [] = refl
list_any_is p (x ∷ l) = rw (list_any_is p l)

pub contains_is : (x : ℕ) (l : List ℕ) → list_any (λ (y : ℕ). eqb y x) l ≡ member x l
contains_is x [] = refl
contains_is x (y ∷ l) = rw (contains_is x l, eqb_comm y x)

-- Lists given by an index function, and a list with a part of it replaced: what a function writes to a buffer that it is lent. Assumes nothing.
use Rattle.std.specs.Prelude.{ℕ, zero, suc, ◌+◌, List, [], ◌∷◌, ◌++◌, length, take, drop}

module _ {A : Type 0} where
  -- f k, f (k + 1), ..: n of them
  abbrev pub tabulate : (ℕ → A) → ℕ → ℕ → List A
  tabulate f k zero = []
  tabulate f k (suc n) = f k ∷ tabulate f (suc k) n

  -- f k ++ f (k + 1) ++ ..: n of them
  abbrev pub concat_tabulate : (ℕ → List A) → ℕ → ℕ → List A
  concat_tabulate f k zero = []
  concat_tabulate f k (suc n) = f k ++ concat_tabulate f (suc k) n

  -- d with the values from the index `from` on replaced by vs
  abbrev pub splice : List A → ℕ → List A → List A
  splice d from vs = take from d ++ vs ++ drop (from + length vs) d

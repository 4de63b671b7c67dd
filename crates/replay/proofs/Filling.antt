-- Filling the start of a buffer. Assumes nothing.
use Prim.Native.Nat.{ℕ, ◌≤◌}
use mathlib.Core.Path.{sym, subst}
use mathlib.Core.List.{List}
use native.Mathlib.Omega.{arith}
use lib.ListN.{length, set, length-take, length-set}
use Rattle.replay.specs.Counting.{Counts}

-- a number no larger than a buffer's length counts values at its start
pub counts : {A : Type 0} (n : ℕ) (xs : List A) → n ≤ length xs → Counts n xs
counts n xs h = (h, omega (arith, h, length-take n xs))

-- a store leaves the length
pub fits_after_set : {A : Type 0} (n : ℕ) (xs : List A) (i : ℕ) (a : A) → n ≤ length xs → n ≤ length (set xs i a)
fits_after_set n xs i a h = subst (λ (k : ℕ). n ≤ k) (sym (length-set xs i a)) h

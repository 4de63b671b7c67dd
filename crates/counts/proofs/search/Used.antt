-- Laws of the marks of used constraints. Assumes nothing.
use mathlib.Core.Logic.{◌≢◌}
use mathlib.Core.Path.{◌≡◌, refl, ap}
use mathlib.Core.Bool.{Bool, true, false, not}
use mathlib.Core.List.{List, [], ◌∷◌}
use Prim.Native.Nat.{ℕ, zero, suc}
use lib.ListN.{set, replicate}
use lib.Dec.{T}
use Rattle.counts.specs.Search.{is_used, free}

-- ---- used constraints
pub set_used : (used : List Bool) (i : ℕ) → T (is_used (set used i true) i)
set_used [] i = tt
set_used (b ∷ bs) zero = tt
set_used (b ∷ bs) (suc i) = set_used bs i

pub still_used : (used : List Bool) (i j : ℕ) → T (is_used used j) → T (is_used (set used i true) j)
still_used [] i j t = t
still_used (b ∷ bs) zero zero t = tt
still_used (b ∷ bs) zero (suc j) t = t
still_used (b ∷ bs) (suc i) zero t = t
still_used (b ∷ bs) (suc i) (suc j) t = still_used bs i j t

pub used_before : (used : List Bool) (i j : ℕ) → j ≢ i → T (is_used (set used i true) j) → T (is_used used j)
used_before [] i j n t = t
used_before (b ∷ bs) zero zero n t = absurd (n refl)
used_before (b ∷ bs) zero (suc j) n t = t
used_before (b ∷ bs) (suc i) zero n t = t
used_before (b ∷ bs) (suc i) (suc j) n t = used_before bs i j (λ e. n (ap suc e)) t

pub free_set : (used : List Bool) (i : ℕ) → T (not (is_used used i)) → suc (free (set used i true)) ≡ free used
free_set [] i t = absurd t
free_set (true ∷ bs) zero t = absurd t
free_set (false ∷ bs) zero t = refl
free_set (true ∷ bs) (suc i) t = free_set bs i t
free_set (false ∷ bs) (suc i) t = rw (free_set bs i t)

pub free_replicate : (n : ℕ) → free (replicate n false) ≡ n
free_replicate zero = refl
free_replicate (suc n) = rw (free_replicate n)

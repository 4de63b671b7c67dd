-- What lending the start of a buffer asks of its length. Assumes nothing.
use Rattle.std.specs.Prelude.{ℕ, ◌≤◌, ◌≡◌, List, length, take}

-- n counts values at the start of xs. The second part follows from the first; both stand here so that `&buffer[..n]` finds them.
abbrev pub Counts : {A : Type 0} → ℕ → List A → Type 0
Counts n xs = (n ≤ length xs) × (n ≡ length (take n xs))

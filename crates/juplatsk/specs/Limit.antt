-- A search limit as a caller in C states it: whether there is one, and which. 0 is a limit, and not none. Assumes nothing.
use Rattle.std.specs.Prelude.{Bool, true, false, Option, Some, None, ℕ}

abbrev pub limit_told : Bool → ℕ → Option ℕ
limit_told true limit = Some limit
limit_told false limit = None

-- The version of the exported functions, which a caller's header or package holds against its own before each call. Assumes nothing.
use Rattle.std.specs.Prelude.{ℕ, ◌+◌, ◌*◌}

abbrev pub major : ℕ
major = 0

abbrev pub minor : ℕ
minor = 6

abbrev pub patch : ℕ
patch = 0

-- "0.6.0" as one number
abbrev pub version : ℕ
version = 10000 * major + 100 * minor + patch

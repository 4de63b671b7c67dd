-- Tests made one after the other, given by an index. Assumes nothing.
use Rattle.std.specs.Prelude.{ℕ, zero, suc, true, false}
use Rattle.base.specs.declared.verdict.Verdict.{Verdict}
use Rattle.base.specs.Refusal.{passed, is_passed, then_test}

-- 01's "value by value", "row by row": the first refusal of f k, f (k + 1), .., which are n tests
unfoldable pub first_of : (ℕ → Verdict) → ℕ → ℕ → Verdict
first_of f k zero = passed
first_of f k (suc n) = then_test (f k) (first_of f (suc k) n)

-- what follows tests that are passed, or what their refusal gives
abbrev pub if_passed : {A : Type 0} → Verdict → A → (Verdict → A) → A
if_passed v x refusal = elim (is_passed v) [
  | true ↦ x
  | false ↦ refusal v
]

-- The quads of a grid: their test, and what an output holds in their place once one is refused. Assumes nothing.
use Rattle.std.specs.Prelude.{not, List, ℕ, Float}
use Rattle.base.specs.declared.verdict.Verdict.{Verdict}
use Rattle.base.specs.Refusal.{refused, refuse_if}
use Rattle.floats.specs.Scalar.{nought, is_positive}
use Rattle.base.specs.Buffers.{tabulate}
use Rattle.curves.specs.Point.{signed_area}
use Rattle.curves.specs.declared.point.Point.{Point}

-- "Every quad's signed area must be finite and above zero": 25 at the quad i, j
unfoldable pub quad_test : Point → Point → Point → Point → ℕ → ℕ → Verdict
unfolding is_positive signed_area
quad_test a b c d i j = refuse_if (not (is_positive (signed_area a b c d))) (refused 25 i j)

-- "needed output +0.0"
abbrev pub zeros : ℕ → List Float
zeros n = tabulate (λ (i : ℕ). nought) 0 n

-- `level::is_plain` meets its contract. Assumes nothing.
use mathlib.Core.Path.{◌≡◌, sym, ◌∙◌}
use mathlib.Core.Bool.{true, true≢false}
use denote.Floats.{passes}
use Rattle.floats.specs.Scalar.{clamp_unit, in_unit}
use Rattle.curves.proofs.level.Laws.{known, plain_by}
use Rattle.curves.proofs.level.is_plain.Goals as goal
use Rattle.curves.proofs.level.is_plain.Goals.{Then-same_bits, then-in_unit, else-in_unit}

-- the first two tests
passed : (c : Then-same_bits) → (in_unit c.args.x ≡ true) × (clamp_unit c.args.x ≡ c.args.x)
passed c = elim c.if-in_unit.branch [
  | then-in_unit w ↦ (sym c.in_unit.ensures ∙ w.if-in_unit.true, sym w.clamp_unit.ensures ∙ w.same_bits.ensures (sym w.value-is ∙ c.if-same_bits.true))
  | else-in_unit w ↦ absurd (true≢false (sym c.if-same_bits.true ∙ w.value-is ∙ w.if-in_unit.false))
]

pub float_to_bits-result : goal.float_to_bits-result
float_to_bits-result c = known _ (passed c).0

pub returns-then-same_bits : goal.returns-then-same_bits
returns-then-same_bits c = plain_by c.args.x (passes _ c.well_formed.0.1) (passed (goal.at.returns-then-same_bits c).Then-same_bits).0 (passed (goal.at.returns-then-same_bits c).Then-same_bits).1

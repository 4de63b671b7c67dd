-- `Operand::digits` meets its contract. Assumes nothing.
use Prim.Native.Nat.{◌%◌}
use native.Mathlib.Omega.{arith}
use lib.Count.{count_leading_zeros}
use Rattle.floats.proofs.root.Patterns.{Lead, lead_of, subnormal_digits, normal_digits}
use Rattle.floats.proofs.root.Operand.digits.Goals as goal
use Rattle.floats.proofs.root.Operand.digits.Goals.{Then-e-eq0}

lead : (c : Then-e-eq0) → Lead c.args.self.bits (c.args.self.bits % 0x10_0000_0000_0000) (count_leading_zeros 64 (c.args.self.bits % 0x10_0000_0000_0000))
lead c = lead_of c.args.self.bits c.args.self.above c.if-e-eq0.true

pub overflow_sub-t : goal.overflow_sub-t
overflow_sub-t c = let l = lead (goal.at.overflow_sub-t c).Then-e-eq0 in omega (arith, l.zeros, l.few)

pub returns-then-e-eq0 : goal.returns-then-e-eq0
returns-then-e-eq0 c = rw c.from-z.ensures (subnormal_digits _ _ _ (lead (goal.at.returns-then-e-eq0 c).Then-e-eq0))

pub returns-else-e-eq0 : goal.returns-else-e-eq0
returns-else-e-eq0 c = normal_digits c.args.self.bits c.args.self.finite c.if-e-eq0.false

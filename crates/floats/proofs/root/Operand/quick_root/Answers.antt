-- `Operand::quick_root` meets its contract. Assumes nothing.
use Prim.Native.Nat.{◌+◌, ◌-◌, ◌*◌, ◌/◌}
use native.Mathlib.Omega.{arith}
use Rattle.std.proofs.lemmas.Float.{not_nan_f64_bits}
use Rattle.floats.proofs.root.Patterns.{normal_digits}
use Rattle.floats.proofs.root.Quick.{Found, found}
use Rattle.floats.proofs.root.Operand.quick_root.Goals as goal
use Rattle.floats.proofs.root.Operand.quick_root.Goals.{In_ok-d}

answer : (c : In_ok-d) → Found c.args.self.bits (((c.args.self.bits / 0x10_0000_0000_0000 + 1073 - 54) / 2 + 1) * 0x10_0000_0000_0000 + c.in_ok-d.d)
answer c =
    let b = c.args.self.bits in
    found b _ _ _ c.args.self.finite (normal_digits b c.args.self.finite c.if-e-eq0.false) c.in_ok-d.ensures

pub float_from_bits-result : goal.float_from_bits-result
float_from_bits-result c = let f = answer (goal.at.float_from_bits-result c).In_ok-d in not_nan_f64_bits _ (omega (arith, f.finite))

pub returns : goal.returns
returns c = (answer (goal.at.returns c).In_ok-d).is

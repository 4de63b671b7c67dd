-- `Operand::take_apart` meets its contract. Assumes nothing.
use Rattle.floats.proofs.root.Assembled.{taken}
use Rattle.floats.proofs.root.Operand.take_apart.Goals as goal

pub returns : goal.returns
returns c = (taken c.args.self.bits _ _ _ _ c.args.self.finite c.digits-m.ensures c.whole_root-whole.ensures).is

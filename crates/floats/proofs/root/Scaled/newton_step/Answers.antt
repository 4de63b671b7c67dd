-- `Scaled::newton_step` meets its contract. Assumes nothing.
use Rattle.floats.proofs.root.Newton.{newton_above}
use Rattle.floats.proofs.root.Scaled.newton_step.Goals as goal

pub returns : goal.returns
returns c = let self = c.args.self in newton_above self.n c.args.r self.lead self.full c.requires.0 c.requires.1

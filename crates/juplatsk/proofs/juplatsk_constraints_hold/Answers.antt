-- `juplatsk_constraints_hold` meets its contract. Assumes nothing.
use Rattle.juplatsk.proofs.Laws.{hold_exported}
use Rattle.juplatsk.proofs.juplatsk_constraints_hold.Goals as goal

pub returns : goal.returns
returns c = hold_exported c.constraints_hold-held.result c.store_flag.ensures c.constraints_hold-held.ensures

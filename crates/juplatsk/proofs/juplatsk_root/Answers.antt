-- `juplatsk_root` meets its contract. Assumes nothing.
use Rattle.juplatsk.proofs.Laws.{root_exported}
use Rattle.juplatsk.proofs.juplatsk_root.Goals as goal

pub returns : goal.returns
returns c =
    let stored = root_exported c.root-taken.result c.store_root.ensures c.root-taken.ensures in
    record { value = stored.0; root_after = stored.1 }

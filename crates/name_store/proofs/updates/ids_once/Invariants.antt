use Rattle.std.proofs.Common.{◌≡◌, drop}
use Rattle.name_store.specs.Table.{ids_once}
use Rattle.name_store.proofs.updates.ids_once.Given as goal

abbrev pub invariant-loop-at : goal.invariant-loop-at
invariant-loop-at l = ids_once l.files ≡ ids_once (drop l.at l.files)

use Rattle.std.proofs.Common.{◌≡◌, take}
use Rattle.key_rows.specs.Names.{names_of}
use Rattle.key_index.proofs.by_name.copy_names.Given as goal

abbrev pub invariant-loop-entry : goal.invariant-loop-entry
invariant-loop-entry l = l.names ≡ names_of (take l.entry-index l.entries.items)

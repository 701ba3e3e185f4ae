-- What a load counts, and the line that sums it up.
use Rattle.std.specs.Prelude.{ℕ, List, ◌++◌, codes}
use Rattle.std.specs.Fmt.{decimal}
use Rattle.load_run.specs.declared.counts.Counts.{Counts}

-- before the first task
abbrev pub no_counts : Counts
no_counts = record { created = 0; deleted = 0; rolled = 0; ready = 0; snapshots = 0; refused = 0; reencrypted = 0 }

-- the line that sums up a load of n steps
unfoldable pub load_line : ℕ → Counts → List ℕ
load_line n c =
    codes "load events=" ++ decimal n
    ++ codes " created=" ++ decimal c.created
    ++ codes " deleted=" ++ decimal c.deleted
    ++ codes " rolled=" ++ decimal c.rolled
    ++ codes " ready=" ++ decimal c.ready
    ++ codes " snapshots=" ++ decimal c.snapshots
    ++ codes " refused=" ++ decimal c.refused
    ++ codes " reencrypted=" ++ decimal c.reencrypted
    ++ codes "\n"

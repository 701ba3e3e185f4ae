-- What a start finds in two empty files.
use Rattle.std.proofs.Common.{◌≡◌, ◌∙◌, ℕ, List, [], ◌∷◌, Some, map, ap, subst}
use Rattle.hk_base.specs.Disk.{DiskState, Tells}
use Rattle.edit_ops.specs.declared.ops.EditOp.{EditOp}
use Rattle.edit_ops.specs.Records.{spelling}
use Rattle.frame_log.specs.Format.{Found, log_of}
use Rattle.key_rows.specs.declared.rows.KeyCommand.{KeyCommand}
use Rattle.key_rows.specs.Records.{spelling as spelling_of_key}
use Rattle.key_rows.specs.Table.{Table, no_keys}
use Rattle.kms_store.specs.Replay.{key_replay}
use Rattle.kms_store.specs.Store.{IsKeyLog}
use Rattle.name_store.specs.Store.{IsNameLog}
use Rattle.name_store.specs.Replay.{name_replay}
use Rattle.name_store.specs.Table.{Replayed, nothing_logged}
use Rattle.prop_text.specs.SizeValues.{SizeValues}
use Rattle.world_run.specs.Keeps.{BeginsFirstWorld}
use Rattle.world_run.specs.World.{RunningWorld, first_world, world_of}

-- a log without payloads has no records

none_replayed : (payloads : List (List ℕ)) (gate : ℕ) → Found [] 0 ≡ Found payloads gate → payloads ≡ []
none_replayed payloads gate is = cc

keys_replayed : (commands : List KeyCommand) (table : Table) → map spelling_of_key commands ≡ [] → key_replay no_keys commands ≡ Some table → table ≡ no_keys
keys_replayed [] table none makes = cc
keys_replayed (c ∷ cs) table none makes = absurd cc

names_replayed : (ops : List EditOp) (made : Replayed) → map spelling ops ≡ [] → name_replay nothing_logged ops ≡ Some made → made ≡ nothing_logged
names_replayed [] made none makes = cc
names_replayed (op ∷ ops) made none makes = absurd cc

keys_found : (bytes : List ℕ) (commands : List KeyCommand) (table : Table) → bytes ≡ [] → IsKeyLog bytes commands table → table ≡ no_keys
keys_found bytes commands table empty log =
    let found = subst (λ (bs : List ℕ). log_of 0 bs ≡ Found (map spelling_of_key commands) log.gate) empty log.found in
    keys_replayed commands table (none_replayed (map spelling_of_key commands) log.gate found) log.makes

names_found : (bytes : List ℕ) (ops : List EditOp) (made : Replayed) → bytes ≡ [] → IsNameLog bytes ops made → made ≡ nothing_logged
names_found bytes ops made empty log =
    let found = subst (λ (bs : List ℕ). log_of 1 bs ≡ Found (map spelling ops) log.gate) empty log.found in
    names_replayed ops made (none_replayed (map spelling ops) log.gate found) log.makes

pub first_of_empty : (sizes : SizeValues) (old new : DiskState) (r : RunningWorld) → Tells old → old.reads 0 ≡ [] → old.reads 1 ≡ [] → BeginsFirstWorld sizes old new r → world_of r ≡ first_world sizes no_keys nothing_logged.table
first_of_empty sizes old new r telling no_key_log no_edit_log begins =
    let logs = begins.log telling in
    begins.first
    ∙ ap (λ (t : Table). first_world sizes t begins.names) (keys_found (old.reads 0) logs.commands begins.table no_key_log logs.keys)
    ∙ ap (λ (m : Replayed). first_world sizes no_keys m.table) (names_found (old.reads 1) logs.ops (record { table = begins.names; used = logs.used }) no_edit_log logs.edits)
